use mathlib.Core.Path.{ap, ◌∙◌}
use Rattle.store.specs.Area.{put}
use Rattle.store.specs.Ranks.{inserted}
use Rattle.store.proofs.area.Area.insert.Goals as goal

pub returns : goal.returns
unfolding inserted
returns c = c.put.ensures ∙ ap (put c.args.self c.args.rank c.args.x) c.move_up.ensures
