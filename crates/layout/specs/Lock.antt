-- Read only: "an edit of a record that has byte 10 = 01 in the body is refused unless the caller asks to override" (document 02, §6).
use Rattle.std.specs.Prelude.{ℕ, Bool, false, eqb}
pub use Rattle.layout.specs.declared.lock.Override.{Override}
pub use Rattle.layout.specs.declared.lock.Override.TheVariants.{NotAsked, Asked}

-- "byte 10"
abbrev pub lock_byte : ℕ
lock_byte = 10

-- "= 01": exactly that value locks
unfoldable pub locks : ℕ → Bool
locks v = eqb v 0x01

-- a record with this byte 10 stays as it is
unfoldable pub keeps : Override → ℕ → Bool
keeps NotAsked v = locks v
keeps Asked v = false
