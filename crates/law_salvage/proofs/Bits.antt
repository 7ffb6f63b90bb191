-- A bit of a number of several bytes, high byte first, is a bit of one of them: the last byte has bits 0-7, and the bytes before it are the number divided by 256.
use Prim.Native.Nat.{ℕ, zero, suc, ◌+◌, ◌*◌, ◌-◌, ◌/◌, ◌%◌, ◌^◌, ◌<◌}
use native.Mathlib.Omega.{arith}
use native.Mathlib.Decide.{dec_lt}
use mathlib.Core.Path.{◌≡◌, sym, ap, ◌∙◌}
use mathlib.Core.List.{List}
use lib.Pow.{field, mod-mod-pow, shr-shr}
use lib.Dec.{eqb}
use lib.ListN.{get_or}
use Rattle.layout.specs.declared.record.Record.{Record}
use Rattle.layout.specs.Bytes.{number}
use Rattle.layout.specs.Records.{bytes_of}
use Rattle.layout.specs.Plays.{bit, chord_mask}

-- bits 0-7 are those of the last byte
low_bit : (n t : ℕ) → t < 8 → bit n t ≡ bit (n % 256) t
unfolding bit
low_bit n t h =
    let z : 7 - t + (1 + t) ≡ 8 = omega arith in
    let last : n % 256 % 2 ^ (1 + t) ≡ n % 2 ^ (1 + t) = rw z at (mod-mod-pow n (7 - t) (1 + t)) in
    ap (λ (m : ℕ). eqb m 1) (sym (field n 1 t) ∙ ap (λ (m : ℕ). m / 2 ^ t) (sym last) ∙ field (n % 256) 1 t)

-- the others are those of the bytes before it
high_bit : (n t : ℕ) → bit n (8 + t) ≡ bit (n / 256) t
unfolding bit
high_bit n t = ap (λ (m : ℕ). eqb (m % 2) 1) (sym (shr-shr n 8 t))

module _ (s : List ℕ) (at : ℕ) (bytes : (k : ℕ) → get_or s k 0 < 256) where
  pub number_bit : (w t : ℕ) → t < 8 * w → bit (number s at w) t ≡ bit (get_or s (at + (w - 1 - t / 8)) 0) (t % 8)
  unfolding number
  number_bit zero t h = absurd (omega arith)
  number_bit (suc w) t h = go (dec_lt t 8) (bytes (at + w)) (λ u. number_bit w u)
    where
      n : ℕ
      n = number s at w

      b : ℕ
      b = get_or s (at + w) 0

      go : Dec (t < 8) → b < 256 → ((u : ℕ) → u < 8 * w → bit n u ≡ bit (get_or s (at + (w - 1 - u / 8)) 0) (u % 8))
          → bit (n * 256 + b) t ≡ bit (get_or s (at + (suc w - 1 - t / 8)) 0) (t % 8)
      go (yes l) byte ih =
          let last : (n * 256 + b) % 256 ≡ b = omega arith in
          let place : suc w - 1 - t / 8 ≡ w = omega arith in
          let own : t % 8 ≡ t = omega arith in
          rw (place, own) (rw last at (low_bit (n * 256 + b) t l))
      go (no l) byte ih =
          let u : ℕ = t - 8 in
          let more : 8 + u ≡ t = omega arith in
          let before : (n * 256 + b) / 256 ≡ n = omega arith in
          let place : w - 1 - u / 8 ≡ suc w - 1 - t / 8 = omega arith in
          let same : u % 8 ≡ t % 8 = omega arith in
          rw (more, before) at (high_bit (n * 256 + b) u) ∙ rw (place, same) at (ih u (omega arith))

-- bit t of the chord mask, which is bytes 13-17
pub chord_bit : (r : Record) (t : ℕ) → ((k : ℕ) → get_or (bytes_of r) k 0 < 256) → t < 40 → bit (chord_mask r) t ≡ bit (get_or (bytes_of r) (17 - t / 8) 0) (t % 8)
unfolding chord_mask
chord_bit r t bytes h =
    let z : 13 + (5 - 1 - t / 8) ≡ 17 - t / 8 = omega arith in
    rw z at (number_bit (bytes_of r) 13 bytes 5 t h)
