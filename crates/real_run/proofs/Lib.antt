mod PickerLaws
