use mathlib.Core.Path.{◌∙◌}
use Rattle.sync.proofs.Turns.{first-sound, second-sound, sync_made}
use Rattle.sync.proofs.decide_queue.sync.Goals as goal

pub spoil_caches-requires : goal.spoil_caches-requires
spoil_caches-requires c = first-sound _ _ _ c.requires c.wake_clauses.ensures

pub renew_mirror-requires : goal.renew_mirror-requires
renew_mirror-requires c = second-sound _ _ _ c.requires c.wake_clauses.ensures _ c.spoil_caches.ensures

pub returns-clause-left : goal.returns-clause-left
returns-clause-left c = sync_made _ _ _ c.requires c.wake_clauses.ensures _ c.spoil_caches.ensures _ (λ v. c.enter_touched.ensures v ∙ rw (c.none-touched.ensures v)) c.renew_mirror.ensures
