use mathlib.Core.Path.{◌≡◌}
use Prim.Native.Nat.{◌+◌, ◌-◌}
use lib.ListN.{length}
use Rattle.requirement.specs.Tables.{cells_of, key_of, first_slot, list_count}
use Rattle.rules.specs.Numbers.{from}
use Rattle.store.specs.Area.{put_run}
use Rattle.store.specs.Lent.{lengths_of}
use Rattle.requirement.proofs.candidates.Lists.copy_lengths.Given as goal

abbrev pub invariant-loop-j : goal.invariant-loop-j
invariant-loop-j l = record {
  size : length l.lengths ≡ length l.initial.lengths;
  left : put_run (record { base = 0; size = length l.initial.lengths }) 0 (lengths_of (from (cells_of l.self.s.now) (first_slot (key_of l.self.r)) (list_count l.self.s.now (key_of l.self.r)))) l.initial.lengths ≡ put_run (record { base = 0; size = length l.initial.lengths }) l.j (lengths_of (from (cells_of l.self.s.now) (first_slot (key_of l.self.r) + l.j) (list_count l.self.s.now (key_of l.self.r) - l.j))) l.lengths;
}
