use Rattle.std.proofs.Common.{◌≡◌, ◌++◌, drop}
use Rattle.session.specs.Saves.{changed_from}
use Rattle.session.proofs.session.Session.changed_files.Given as goal

-- the files so far, and those of the sheets that are left, are all of them
abbrev pub invariant-loop-place : goal.invariant-loop-place
invariant-loop-place l = l.files.items ++ changed_from l.self-inside.book.book l.place (drop l.place l.self-inside.changed_sheets.items)
    ≡ changed_from l.self-inside.book.book 0 l.self-inside.changed_sheets.items
