use Rattle.std.proofs.Common.{◌≤◌}
use Rattle.script.specs.declared.words.TheConstants.{MOST_WORDS}
use Rattle.script.proofs.words.scan.Given as goal

abbrev pub invariant-loop-text : goal.invariant-loop-text
invariant-loop-text l = l.count ≤ MOST_WORDS
