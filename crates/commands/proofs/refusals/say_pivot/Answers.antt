use Rattle.std.proofs.Common.{◌≡◌, ◌++◌, codes, decimal, map, string_bytes}
use Rattle.std.specs.List.{join_with_byte}
use Rattle.commands.specs.Refusals.{StepIsListed, path_text}
use Rattle.commands.proofs.Saying.{pivot_said}
use Rattle.model_lines.proofs.Cells.{by_parts}
use Rattle.commands.proofs.refusals.say_pivot.Goals as goal

pub say_path-requires : goal.say_path-requires
say_path-requires c = by_parts (StepIsListed c.args.sheets.now) c.args.path.now c.requires

pub returns : goal.returns
returns c =
    let rowed : string_bytes c.say_number.new.to ≡ string_bytes c.say_basis.new.to ++ (codes " at " ++ decimal c.args.place.0) = cc c.in_ok-say_number.ensures in
    let ended : string_bytes c.say_number-2.new.to ≡ string_bytes c.say_number.new.to ++ (codes " " ++ decimal c.args.place.1) = cc c.in_ok-say_number-2.ensures in
    pivot_said (string_bytes c.args.to.now) (string_bytes c.push_str.new.self) (string_bytes c.say_path.new.to) (string_bytes c.push_str-2.new.self) (string_bytes c.say_basis.new.to)
    (string_bytes c.say_number.new.to) (string_bytes c.say_number-2.new.to) (codes "refused wide-pivot ") (path_text c.args.sheets.now c.args.path.now) (codes " basis ")
    (join_with_byte 44 (map decimal c.args.basis.now)) (codes " at ") (decimal c.args.place.0) (codes " ") (decimal c.args.place.1)
    c.in_ok-push_str.ensures.bytes c.in_ok-say_path.ensures c.in_ok-push_str-2.ensures.bytes c.in_ok-say_basis.ensures rowed ended
