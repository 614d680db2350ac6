-- The code's states and steps as the definitions' own.
use Rattle.std.specs.Prelude.{◌≡◌}
use Rattle.definitions.specs.Machine.{returns, stuck}
use Rattle.definitions.specs.Machine as machine
use Rattle.machine.specs.declared.State.{State}
use Rattle.machine.specs.declared.Step.{Step}
use Rattle.machine.specs.declared.Step.TheVariants.{Next, Returns, Stuck}

abbrev pub state_of : State → machine.State
state_of s = record { A = s.a; X = s.x; M = s.m }

abbrev pub step_of : Step → State → machine.Step
step_of (Next d) s = machine.next d (state_of s)
step_of (Returns a) s = machine.stop (returns a)
step_of Stuck s = machine.stop stuck

-- the code's step, which leaves that state, is that step
abbrev pub Stepped : machine.Step → Step → State → Type 0
Stepped x r s = step_of r s ≡ x

-- a step that does not go on leaves the state as it was
abbrev pub Stays : Step → State → State → Type 0
Stays (Next d) before after = Unit {0}
Stays (Returns a) before after = after ≡ before
Stays Stuck before after = after ≡ before
