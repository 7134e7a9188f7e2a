use mathlib.Core.Path.{sym, ◌∙◌}
use Rattle.store.proofs.Soundness.{sound_facts}
use Rattle.store.proofs.shape.check.Goals as goal

pub returns-then-sound-clause-shape : goal.returns-then-sound-clause-shape
returns-then-sound-clause-shape c = sound_facts _ (sym c.sound.ensures ∙ c.if-sound.true)
