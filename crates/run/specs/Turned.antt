-- Whose turn it is in a run.
use Rattle.std.specs.Prelude.{Bool, true, false, List, [], ◌∷◌, map, drop, Ok, Err, Result, if◌then◌else◌}
use Rattle.model.specs.Roles.{Act, give, new, hear, say, same, make, split, unlock}
use Rattle.program.specs.declared.action.Row.{Row}
use Rattle.run.specs.declared.fault.RunFault.{RunFault}
use Rattle.run.specs.declared.fault.RunFault.TheVariants.{OutOfTurn}
use Rattle.run.specs.declared.run.Run.{Run}
use Rattle.run.specs.declared.turn.Asked.{Asked}
use Rattle.run.specs.declared.turn.Asked.TheVariants as asks
use Rattle.run.specs.Plain.{Turn, begins, says, hears, nobody, line_turn}
use Rattle.run.specs.Filling.{lined, line_rows}

-- does an action take in a value that is given, or make an atom?
abbrev pub is_give : Act → Bool
is_give (give r) = true
is_give (new r) = false
is_give (hear r) = false
is_give (say r) = false
is_give (same r q) = false
is_give (make r h rs) = false
is_give (split f n h r) = false
is_give (unlock x r k) = false

abbrev pub is_new : Act → Bool
is_new (give r) = false
is_new (new r) = true
is_new (hear r) = false
is_new (say r) = false
is_new (same r q) = false
is_new (make r h rs) = false
is_new (split f n h r) = false
is_new (unlock x r k) = false

-- the rows of a run that are still to come
abbrev pub rows_ahead : Run → List Row
rows_ahead run = drop run.place run.program.rows.now

-- those of the next line
abbrev pub first_line : List Row → List Row
first_line [] = []
first_line (r ∷ rs) = line_rows r.line (r ∷ rs)

abbrev pub line_ahead : Run → List Row
line_ahead run = first_line (rows_ahead run)

abbrev pub turn_of : Run → Turn
turn_of run = if run.begun then line_turn (map lined (rows_ahead run)) else begins

-- is it the turn of a call?
abbrev pub turns : Turn → Asked → Bool
turns begins asks.Begin = true
turns begins asks.Say = false
turns begins asks.Hear = false
turns says asks.Begin = false
turns says asks.Say = true
turns says asks.Hear = false
turns hears asks.Begin = false
turns hears asks.Say = false
turns hears asks.Hear = true
turns nobody a = false

abbrev pub turn_answer : Run → Asked → Result (Unit {0}) RunFault
turn_answer run a = if turns (turn_of run) a then Ok tt else Err (OutOfTurn run.place)
