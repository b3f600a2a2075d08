use Rattle.std.proofs.Common.{◌≡◌, ◌++◌, ◌∷◌, [], rules}
use Rattle.solver_io.proofs.Copies.{copied}
use Rattle.solver_io.proofs.sink.SureSinkSink.write.Goals as goal

pub invariant_of-self-else-is_err : goal.invariant_of-self-else-is_err
invariant_of-self-else-is_err c =
    let pushed : c.push.new.self.items ≡ c.self.inside.pieces.items ++ c.in_ok-copy.copy ∷ [] = search rules in
    let appended : c.extend_from_slice.new.self.items ≡ c.self.inside.bytes.items ++ c.args.piece.now = search rules in
    let same : c.in_ok-copy.copy.items ≡ c.args.piece.now = search rules in
    copied c.self.inside.pieces.items c.push.new.self.items c.in_ok-copy.copy c.self.inside.bytes.items _ _ c.self.invariant same pushed appended
