use Rattle.std.proofs.Common.{◌≡◌, ◌∙◌, ◌++◌, List, ℕ, [], ap, sym, append-nil, append_assoc, codes, map, string_bytes}
use Rattle.frac128.specs.Printed.{printed}
use Rattle.model_lines.specs.Ended.{ended}
use Rattle.model_lines.proofs.Ended.{put_together}
use Rattle.commands.specs.Prices.{price_line}
use Rattle.commands.proofs.price_lines.say_prices.Goals as goal

pub returns : goal.returns
returns c =
    let old = string_bytes c.args.to.now in
    let prices = c.args.prices.now in
    let best = codes "optimal " ++ printed prices.value in
    let headed = string_bytes c.push_str.new.self in
    let rowed = string_bytes c.say_rows.new.to in
    let head = c.in_ok-push_str.ensures.bytes ∙ ap (λ (l : List ℕ). l ++ codes "\n") c.in_ok-say_best.ensures ∙ append_assoc old best (codes "\n") in
    let rows : rowed ≡ headed ++ ended (map price_line prices.rows.items) = cc (c.in_ok-say_rows.ensures, c.deref.ensures.value) in
    let same = sym (append-nil rowed) in
    put_together old headed rowed rowed rowed _ best _ [] [] (codes "end") head rows same same c.in_ok-push_str-2.ensures.bytes
