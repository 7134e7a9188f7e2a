-- THE TRAIL AND THE MIRROR entry by entry: what is touched, how many touches there are, and what the new mirror holds. Assumes nothing.
use mathlib.Core.List.{List, ◌++◌}
use mathlib.Core.Path.{◌≡◌, refl, sym, ap, ◌∙◌}
use Prim.Native.Nat.{ℕ, zero, suc, ◌+◌, ◌-◌, ◌*◌, ◌≤◌, ◌<◌}
use native.Mathlib.Nat.{zero-add}
use native.Mathlib.Omega.{arith}
use lib.ListN.{length, take, drop}
use Rattle.meaning.specs.Standing.{entry_at, trail_of, mirror_of, store_of}
use Rattle.rules.specs.Store.{touched}
use Rattle.rules.specs.Sync.{variables}
use Rattle.store.proofs.AreaLaws.{area_kept}
use Rattle.store.proofs.Runs.{at-run, at-run-before}
use Rattle.store.specs.Area.{at, put}
use Rattle.store.specs.Layout.{mirror, mirror_length, sync_floor, trail_length, trail_variables, trail_values}
use Rattle.store.specs.Limits.{trail_room}
use Rattle.store.specs.Shape.{Sound}
use Rattle.sync.proofs.Kept.{length_new, copies_fit, mirrored_at, new_length, mirrored_sound}
use Rattle.sync.specs.Sync.{old_entries, new_entries, touched_in, touches_in, copied_words, mirrored_words}
use Rattle.rules.specs.Numbers.{from}
use Rattle.meaning.proofs.Lists.{area-from, length_mirror, length_trail}
use Rattle.rules.proofs.Froms.{drop-from, from_agree, from_append, from-same, get_d_from, take_from}

variables-from : (w : List ℕ) (i n : ℕ) → variables (from (entry_at w) i n) ≡ from (λ k. at trail_variables k w) i n
unfolding variables from entry_at
variables-from w i zero = refl
variables-from w i (suc n) = rw (variables-from w (i + 1) n)

module _ (w : List ℕ) (h : Sound w) where
  mirror-from : mirror_of w ≡ from (λ k. at mirror k w) 0 (at mirror_length 0 w)
  unfolding mirror_of
  mirror-from = area-from mirror w 0 (at mirror_length 0 w) (omega (arith, h.long)) (rw (zero-add (at mirror_length 0 w)) (h.ranges mirror_length trail_room tt 0))

  old-is : drop (at sync_floor 0 w) (mirror_of w) ≡ old_entries w
  unfolding old_entries
  old-is =
      ap (drop (at sync_floor 0 w)) mirror-from
      ∙ drop-from (λ k. at mirror k w) (at sync_floor 0 w) 0 (at mirror_length 0 w) h.floor_mirror
      ∙ rw (zero-add (at sync_floor 0 w))

  new_is : variables (drop (at sync_floor 0 w) (trail_of w)) ≡ new_entries w
  unfolding new_entries trail_of
  new_is =
      ap variables (drop-from (entry_at w) (at sync_floor 0 w) 0 (at trail_length 0 w) h.floor_trail)
      ∙ rw (zero-add (at sync_floor 0 w)) (variables-from w (at sync_floor 0 w) (at trail_length 0 w - at sync_floor 0 w))

  -- what is touched is what the rules say
  pub touched-is : touched_in w ≡ touched (store_of w)
  unfolding touched_in
  touched-is = rw (old-is, new_is)

  -- "the mirror's length plus the trail's, less twice the floor"
  pub touches_are : touches_in w ≡ length (mirror_of w) + length (trail_of w) - 2 * at sync_floor 0 w
  unfolding touches_in
  touches_are = rw (length_mirror w h, length_trail w) (omega (arith, h.floor_mirror, h.floor_trail))

-- THE NEW MIRROR
module _ (w : List ℕ) (h : Sound w) where
  -- a word of it: below the floor the old one, from there on the trail's
  mirror-word : (k : ℕ) → at mirror k (mirrored_words w) ≡ at mirror k (copied_words w)
  unfolding mirrored_words at
  mirror-word k =
      rw (
        area_kept mirror sync_floor 0 (at trail_length 0 w) (put mirror_length 0 (at trail_length 0 w) (copied_words w)) tt (omega arith),
        area_kept mirror mirror_length 0 (at trail_length 0 w) (copied_words w) tt (omega arith),
      )

  mirror-low : (k : ℕ) → k < at sync_floor 0 w → at mirror k (mirrored_words w) ≡ at mirror k w
  unfolding copied_words
  mirror-low k l = mirror-word k ∙ at-run-before mirror (at sync_floor 0 w) (new_entries w) w k (copies_fit w h) l

  mirror-high : (k : ℕ) → at sync_floor 0 w ≤ k → k < at trail_length 0 w → at mirror k (mirrored_words w) ≡ at trail_variables k w
  unfolding copied_words new_entries
  mirror-high k l m =
      let e : k ≡ at sync_floor 0 w + (k - at sync_floor 0 w) = omega arith in
      mirror-word k
      ∙ ap (λ j. at mirror j (copied_words w)) e
      ∙ at-run mirror (at sync_floor 0 w) (new_entries w) w (k - at sync_floor 0 w) (omega (arith, h.long)) (copies_fit w h) (omega (arith, length_new w h))
      ∙ get_d_from (λ j. at trail_variables j w) (at sync_floor 0 w) (k - at sync_floor 0 w) (at trail_length 0 w - at sync_floor 0 w) 0 (omega arith)
      ∙ ap (λ j. at trail_variables j w) (sym e)

  mirror-front : from (λ k. at mirror k (mirrored_words w)) 0 (at sync_floor 0 w) ≡ take (at sync_floor 0 w) (mirror_of w)
  mirror-front =
      from_agree (λ k. at mirror k (mirrored_words w)) (λ k. at mirror k w) 0 (at sync_floor 0 w) (λ k a b. mirror-low k (omega arith))
      ∙ sym (take_from (λ k. at mirror k w) (at sync_floor 0 w) 0 (at mirror_length 0 w) h.floor_mirror)
      ∙ ap (take (at sync_floor 0 w)) (sym (mirror-from w h))

  mirror-rest : from (λ k. at mirror k (mirrored_words w)) (0 + at sync_floor 0 w) (at trail_length 0 w - at sync_floor 0 w) ≡ variables (drop (at sync_floor 0 w) (trail_of w))
  unfolding new_entries
  mirror-rest =
      rw (zero-add (at sync_floor 0 w))
      (from_agree (λ k. at mirror k (mirrored_words w)) (λ k. at trail_variables k w) (at sync_floor 0 w) (at trail_length 0 w - at sync_floor 0 w)
      (λ k a b. mirror-high k a (omega (arith, h.floor_trail)))
      ∙ sym (new_is w h))

  pub mirror_is : mirror_of (mirrored_words w) ≡ take (at sync_floor 0 w) (mirror_of w) ++ variables (drop (at sync_floor 0 w) (trail_of w))
  mirror_is =
      let e : at trail_length 0 w ≡ at sync_floor 0 w + (at trail_length 0 w - at sync_floor 0 w) = omega (arith, h.floor_trail) in
      mirror-from (mirrored_words w) (mirrored_sound w h)
      ∙ ap (from (λ k. at mirror k (mirrored_words w)) 0) (new_length w h ∙ e)
      ∙ from_append (λ k. at mirror k (mirrored_words w)) 0 (at sync_floor 0 w) (at trail_length 0 w - at sync_floor 0 w)
      ∙ rw (mirror-front, mirror-rest)

  pub trail_kept : trail_of (mirrored_words w) ≡ trail_of w
  unfolding trail_of entry_at
  trail_kept =
      rw (mirrored_at w h trail_length tt tt tt 0)
      (from-same (entry_at (mirrored_words w)) (entry_at w) one 0 (at trail_length 0 w))
    where
      one : (k : ℕ) → entry_at (mirrored_words w) k ≡ entry_at w k
      one k = rw (mirrored_at w h trail_variables tt tt tt k, mirrored_at w h trail_values tt tt tt k)
