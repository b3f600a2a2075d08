use Rattle.std.proofs.Common.{◌≡◌, false, ap, sym, ◌∙◌}
use Rattle.extract.specs.Places.{is_in_circle}
use Rattle.form_extraction.specs.Places.{numbered_in}
use Rattle.workbook.specs.Kinds.{book_of}
use Rattle.needed_cells.specs.Finding.{has_circle}
use Rattle.needed_cells.proofs.Circles.{free, free_side, has_forms, in_circle, out_of_circles, tree_there}
use Rattle.needed_cells.proofs.looks.looks_from.Goals as goal
use Rattle.needed_cells.proofs.looks.looks_from.Goals.{then-is_kept_circular+in_ok-referred+else-has_circle, else-is_kept_circular}

pub returns-then-has_circle : goal.returns-then-has_circle
returns-then-has_circle c =
    in_circle (book_of c.args.sheet.now.book.now) c.args.sheet.now.sides.now c.args.sheet.now.adj.now c.args.sheet.now.forms.now c.requires.settled c.args.sheet.now.roots.now c.args.tree.now
    c.in_ok-referred.referred.items c.in_ok-referred.ensures c.args.place c.requires.tree (sym c.if-is_kept_circular.ensures)
    (ap (has_circle c.args.sheet.now.forms.now c.args.place) (sym c.deref.ensures.value) ∙ sym c.if-has_circle.ensures)

pub looked_at-requires-clause-tree : goal.looked_at-requires-clause-tree
looked_at-requires-clause-tree c =
    tree_there (book_of c.args.sheet.now.book.now) c.args.sheet.now.sides.now c.args.sheet.now.adj.now c.args.sheet.now.forms.now c.requires.settled c.args.sheet.now.roots.now c.args.tree.now
    c.args.place c.requires.tree

pub looked_at-requires-clause-free : goal.looked_at-requires-clause-free
looked_at-requires-clause-free c =
    elim c.if-is_kept_circular.branch [
      | then-is_kept_circular+in_ok-referred+else-has_circle w ↦
          free_side (book_of c.args.sheet.now.book.now) c.args.sheet.now.sides.now c.args.sheet.now.adj.now c.args.sheet.now.forms.now c.requires.settled c.args.sheet.now.roots.now c.args.tree.now
          w.in_ok-referred.referred.items w.in_ok-referred.ensures c.args.place
          (ap (has_circle c.args.sheet.now.forms.now c.args.place) (sym w.deref.ensures.value) ∙ sym w.if-has_circle.ensures)
      | else-is_kept_circular w ↦
          free (book_of c.args.sheet.now.book.now) c.args.sheet.now.sides.now c.args.sheet.now.adj.now c.args.sheet.now.forms.now c.requires.settled c.args.sheet.now.roots.now c.args.tree.now
          c.args.place c.requires.tree (sym w.if-is_kept_circular.ensures)
    ]

pub looked_at-requires-clause-forms : goal.looked_at-requires-clause-forms
looked_at-requires-clause-forms c =
    has_forms (book_of c.args.sheet.now.book.now) c.args.sheet.now.sides.now c.args.sheet.now.adj.now c.args.sheet.now.forms.now c.requires.settled c.args.tree.now

pub returns : goal.returns
returns c =
    let is_free : is_in_circle (book_of c.args.sheet.now.book.now) (numbered_in c.args.sheet.now.adj.now) c.args.place c.args.tree.now ≡ false = elim c.if-is_kept_circular.branch [
      | then-is_kept_circular+in_ok-referred+else-has_circle w ↦
          free_side (book_of c.args.sheet.now.book.now) c.args.sheet.now.sides.now c.args.sheet.now.adj.now c.args.sheet.now.forms.now c.requires.settled c.args.sheet.now.roots.now c.args.tree.now
          w.in_ok-referred.referred.items w.in_ok-referred.ensures c.args.place
          (ap (has_circle c.args.sheet.now.forms.now c.args.place) (sym w.deref.ensures.value) ∙ sym w.if-has_circle.ensures)
      | else-is_kept_circular w ↦
          free (book_of c.args.sheet.now.book.now) c.args.sheet.now.sides.now c.args.sheet.now.adj.now c.args.sheet.now.forms.now c.requires.settled c.args.sheet.now.roots.now c.args.tree.now
          c.args.place c.requires.tree (sym w.if-is_kept_circular.ensures)
    ] in
    λ b.
    let by =
    out_of_circles (book_of c.args.sheet.now.book.now) c.args.sheet.now.sides.now c.args.sheet.now.adj.now c.args.sheet.now.forms.now c.requires.settled c.args.sheet.now.roots.now c.args.tree.now
    c.args.place c.requires.tree is_free b in
    ((λ h. by.0 ((c.in_ok-looks.ensures.each b).0 h)), (λ h. (c.in_ok-looks.ensures.each b).1 (by.1 h)))
