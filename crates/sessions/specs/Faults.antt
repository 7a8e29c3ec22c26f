-- A program's fault, as one of runs.
use Rattle.program.specs.declared.take_up.ProgramFault.{ProgramFault}
use Rattle.program.specs.declared.take_up.ProgramFault.TheVariants as programs
use Rattle.sessions.specs.declared.fault.RunsFault.{RunsFault}
use Rattle.sessions.specs.declared.fault.RunsFault.TheVariants.{Unsound, NoMemory}

abbrev pub runs_fault : ProgramFault → RunsFault
runs_fault programs.Unsound = Unsound
runs_fault (programs.NoMemory w) = NoMemory w
