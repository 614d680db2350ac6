-- The loop's invariant: as many instructions as it has gone through stand where they begin.
use Rattle.std.proofs.Common.{◌≡◌, ◌+◌, ◌*◌, take}
use Rattle.definitions.specs.Machine.{filter_bytes}
use Rattle.bpf.specs.Place.{place}
use Rattle.condition.proofs.put_all.Given as goal

abbrev pub invariant-loop-instruction : goal.invariant-loop-instruction
invariant-loop-instruction g l =
    (l.next ≡ l.at + 8 * l.instruction-index) × (l.out ≡ place l.initial.out l.at (filter_bytes (take l.instruction-index l.instruction-items)))
