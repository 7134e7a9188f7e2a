use mathlib.Core.Path.{refl}
use Rattle.store.specs.Area.{put}
use Rattle.store.proofs.area.Area.put.Goals as goal

pub returns : goal.returns
unfolding put
returns c = refl
