-- What the crates above name of form_truth, handed on.
pub use Rattle.form_truth.proofs.Ended.{first_fails, first_passes}
pub use Rattle.form_truth.proofs.Finding.{across_is_right, lookup_is_right}
pub use Rattle.form_truth.proofs.Joining.{answers_right}
pub use Rattle.form_truth.proofs.Matching.{found_is_right}
pub use Rattle.form_truth.proofs.Picking.{index_is_right}
pub use Rattle.form_truth.proofs.Rows.{average_is_right, count_is_right, countif_is_right, mmult_is_right, sum_is_right, sumproduct_is_right}
pub use Rattle.form_truth.proofs.Rows.{transpose_is_right}
pub use Rattle.form_truth.proofs.Sameness.{same_error_is}
