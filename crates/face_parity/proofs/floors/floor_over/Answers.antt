use Rattle.std.proofs.Common.{◌≡◌, ℕ, Bool, false, subst}
use Rattle.face_parity.specs.Parities.{pass_oddly}
use Rattle.face_parity.proofs.Lowest.{floor-by-pairs}
use Rattle.face_parity.proofs.floors.floor_over.Goals as goal

pub returns-then-are_paired : goal.returns-then-are_paired
returns-then-are_paired c =
    let paired : (test : ℕ → Bool) → pass_oddly test c.deref.result.now ≡ false = c.are_paired.ensures c.if-are_paired.true in
    floor-by-pairs c.args.spans.now c.args.refs.now c.push_ends.new.ends.items c.sort_unstable.new.self.items c.in_ok-low.low
    c.in_ok-low.ensures.ends c.sort_unstable.ensures.permutation (λ test.
    subst (λ xs. pass_oddly test xs ≡ false) c.deref.ensures.value (paired test)) c.in_ok-low.ensures.low
