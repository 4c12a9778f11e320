-- State and event together decide what follows. Assumes nothing.
--   moved s e   the state after the event e; an event that cannot come in s changes nothing
use Rattle.steps.specs.declared.states.State.{State}
use Rattle.steps.specs.declared.states.State.TheVariants.{Idle, Active, AtHost, Stopped}
use Rattle.steps.specs.declared.states.Event.{Event}
use Rattle.steps.specs.declared.states.Event.TheVariants.{Entered, Host, Reply, Return, Stop, Cut}

abbrev pub moved : State → Event → State
moved Idle Entered = Active
moved Idle Host = Idle
moved Idle Reply = Idle
moved Idle Return = Idle
moved Idle Stop = Idle
moved Idle Cut = Idle
moved Active Entered = Active
moved Active Host = AtHost
moved Active Reply = Active
moved Active Return = Idle
moved Active Stop = Stopped
moved Active Cut = Stopped
moved AtHost Entered = AtHost
moved AtHost Host = AtHost
moved AtHost Reply = Active
moved AtHost Return = AtHost
moved AtHost Stop = AtHost
moved AtHost Cut = AtHost
moved Stopped Entered = Stopped
moved Stopped Host = Stopped
moved Stopped Reply = Stopped
moved Stopped Return = Stopped
moved Stopped Stop = Stopped
moved Stopped Cut = Stopped
