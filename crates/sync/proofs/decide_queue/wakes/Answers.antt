use Rattle.meaning.proofs.Records.{clause-inside}
use Rattle.sync.proofs.decide_queue.wakes.Goals as goal

pub at-parent-requires-clause-inside : goal.at-parent-requires-clause-inside
at-parent-requires-clause-inside c = clause-inside _ c.requires.sound _ c.requires.known

pub at-requires-clause-inside : goal.at-requires-clause-inside
at-requires-clause-inside c = clause-inside _ c.requires.sound _ c.requires.known

pub at-requires-else-in_condition-clause-inside : goal.at-requires-else-in_condition-clause-inside
at-requires-else-in_condition-clause-inside c = clause-inside _ c.requires.sound _ c.requires.known
