-- Each number is that of the channel at its place.
use Prim.Native.Nat.{ℕ, suc, ◌<◌}
use mathlib.Core.Path.{◌≡◌, refl, ap, ap₂}
use mathlib.Core.List.{List, [], ◌∷◌, map}
use native.Mathlib.Omega.{arith}
use lib.ListN.{length, get_or}
use borrow.Author.Rules.{rules}
use Rattle.layout.specs.declared.record.SourceChannel.{SourceChannel}
use Rattle.c_row.specs.Rows.{channel}
use Rattle.c_row.proofs.channels.numbers.Goals as goal

numbered : (xs : List SourceChannel) (ys : List ℕ) → length xs ≡ length ys → ((i : ℕ) → i < length ys → get_or ys i 0 ≡ (get_or xs i (channel 0)).0) → map channel ys ≡ xs
numbered [] [] l h = refl
numbered [] (y ∷ ys) l h = absurd (omega (arith, l))
numbered (x ∷ xs) [] l h = absurd (omega (arith, l))
numbered (x ∷ xs) (y ∷ ys) l h = ap₂ (λ (a : SourceChannel) (b : List SourceChannel). a ∷ b) (ap channel (h 0 (omega arith))) (numbered xs ys (omega (arith, l)) (λ i m. h (suc i) (omega arith)))

pub returns : goal.returns
returns c =
    let w = c.map.ensures.items in
    numbered c.args.from c.map.result (search (rules, w.long)) (λ i l. let v = w.at i (channel 0) 0 (omega (arith, w.long)) in search (rules, v))
