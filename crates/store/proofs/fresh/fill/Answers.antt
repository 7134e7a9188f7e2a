use mathlib.Core.Path.{ap, ◌∙◌}
use Rattle.store.specs.Area.{put}
use Rattle.store.specs.Fresh.{fresh_words}
use Rattle.store.specs.Layout.{mode}
use Rattle.store.proofs.fresh.fill.Goals as goal

pub returns : goal.returns
unfolding fresh_words
returns c = c.put.ensures ∙ ap (put mode 0 1) c.blank.ensures
