use Rattle.meaning.proofs.Records.{clause-inside}
use Rattle.examine.proofs.examination.examine_queued.Goals as goal

pub put-requires-clause-inside : goal.put-requires-clause-inside
put-requires-clause-inside c = clause-inside _ c.requires.sound _ c.requires.known
