-- `with` keeps the room behind its cell empty. Assumes nothing.
use Rattle.std.proofs.Common.{◌≡◌, ℕ, ◌+◌, ◌-◌, ◌<◌, List, drop, replicate, sym, ap, ◌∙◌, arith, slice_set, length-set}
use Rattle.std.proofs.lemmas.List.{drop-drop, drop-set-lt, drop-replicate}
use Rattle.answers.proofs.told.Told.with.Goals as goal

-- What is put at or before the place where the empty ones begin leaves those behind it empty.
one_put : {X : Type 0} (n i : ℕ) (xs : List X) (x empty : X) → i < n + 1 → drop n xs ≡ replicate (32 - n) empty
    → drop (n + 1) (slice_set xs i x) ≡ replicate (32 - (n + 1)) empty
one_put n i xs x empty before rest =
    let fewer : (32 - n) - 1 ≡ 32 - (n + 1) = omega arith in
    drop-set-lt (n + 1) xs i x before
    ∙ sym (drop-drop 1 n xs)
    ∙ ap (drop 1) rest
    ∙ drop-replicate 1 (32 - n) empty
    ∙ ap (λ k. replicate k empty) fewer

pub invariant_of-told : goal.invariant_of-told
invariant_of-told g c =
    let room = c.if-told-lt-ROOM.true in
    let before = c.told.invariant in
    (omega (arith, room), length-set _ _ _ ∙ before.1, one_put _ _ _ _ _ (omega arith) before.2)
