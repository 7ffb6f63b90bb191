-- A record in a proof by hand: its row, and its machine value, alone and as the one of its list.
use mathlib.Core.List.{List}
use mir.Val.{Val}
use denote.RattleType.{RattleType}
use denote.Struct.Laws as LL
use Rattle.layout.specs.declared.record.Record.{Record}
use Rattle.layout.specs.contracts.record.Record as T
use Rattle.layout.proofs.record.Record.TheLaws as L

abbrev pub R : RattleType
R = T.the_row

abbrev pub val : Record → Val
val = LL.val T.the_type L.the_laws

abbrev pub vals : Record → List Val
vals = LL.vals T.the_type L.the_laws
