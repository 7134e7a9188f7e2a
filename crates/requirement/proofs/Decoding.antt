-- The requirement that a kind and an id name, and its two numbers. Assumes nothing.
use mathlib.Core.Bool.{Bool, true, false, not, cond, ◌&&◌}
use mathlib.Core.List.{List}
use mathlib.Core.Path.{◌≡◌, refl, subst}
use Prim.Native.Nat.{ℕ, ◌+◌}
use borrow.Author.Tests.{eqb-true, ltb-true}
use lib.Dec.{ltb, eqb}
use Rattle.std.specs.Prelude.{Result, Ok, Err}
use Rattle.rules.proofs.Choice.{both, cond_yes, cond_no}
use Rattle.requirement.specs.Copy.{tabled}
use Rattle.requirement.specs.Load.{known}
use Rattle.requirement.specs.Part.{Named}
use Rattle.requirement.specs.Tables.{decoded, id_of, key_at, key_of, kind_of, requirement_of}
use Rattle.requirement.specs.declared.Requirement.{Requirement}
use Rattle.requirement.specs.declared.Requirement.TheVariants.{Single, Union}
use Rattle.store.specs.Area.{at}
use Rattle.store.specs.Layout.{set_names, tables_loaded, union_sizes}
use Rattle.store.specs.Limits.{unions, version_sets}
use Rattle.store.specs.declared.refusals.Refusal.{Refusal}
use Rattle.store.specs.declared.refusals.Refusal.TheVariants.{BadId}

-- its numbers name it
pub requirement_back : (r : Requirement) → requirement_of (kind_of r) (id_of r) ≡ r
unfolding requirement_of
requirement_back (Single v) = refl
requirement_back (Union u) = refl

pub key_back : (r : Requirement) → key_at (kind_of r) (id_of r) ≡ key_of r
key_back r = rw (requirement_back r)

-- what is decoded is in range, and has the two numbers
pub record Decoded (kind id : ℕ) (r : Requirement) : Type 0 where
  pub kind_is : kind ≡ kind_of r
  pub id_is : id ≡ id_of r
  pub named : Named r

module _ (kind id : ℕ) where
  pub decoded_facts : (r : Requirement) → decoded kind id ≡ Ok r → Decoded kind id r
  unfolding decoded requirement_of
  decoded_facts r e = go (eqb kind 0) (ltb id version_sets) (eqb kind 1) (ltb id unions) refl refl refl refl e
    where
      go : (a b c d : Bool) → eqb kind 0 ≡ a → ltb id version_sets ≡ b → eqb kind 1 ≡ c → ltb id unions ≡ d → cond (cond a b (c && d)) (Ok (cond a (Single id) (Union id))) (Err BadId) ≡ Ok r → Decoded kind id r
      go true true c d p q s t e =
          let z : Single id ≡ r = cc in
          subst (λ x. Decoded kind id x) z (record { kind_is = eqb-true kind 0 p; id_is = refl; named = ltb-true _ _ q })
      go true false c d p q s t e = absurd (cc)
      go false b true true p q s t e =
          let z : Union id ≡ r = cc in
          subst (λ x. Decoded kind id x) z (record { kind_is = eqb-true kind 1 s; id_is = refl; named = ltb-true _ _ t })
      go false b true false p q s t e = absurd (cc)
      go false b false d p q s t e = absurd (cc)

  pub decoded_named : (r : Requirement) → decoded kind id ≡ Ok r → Named r
  decoded_named r e = (decoded_facts r e).named

  -- what is not decoded is refused with 2, and names nothing
  pub record Unknown (w : List ℕ) (e : Refusal) : Type 0 where
    pub refusal_is : e ≡ BadId
    pub unknown : known w kind id ≡ false
    pub untabled : tabled w kind id ≡ false

  pub undecoded : (w : List ℕ) (e : Refusal) → decoded kind id ≡ Err e → Unknown w e
  unfolding decoded requirement_of known tabled
  undecoded w e h =
      let f = go (eqb kind 0) (ltb id version_sets) (eqb kind 1) (ltb id unions) (not (eqb (at set_names id w) 0)) (not (eqb (at union_sizes id w) 0)) (not (eqb (at tables_loaded id w) 0)) (not (eqb (at tables_loaded (version_sets + id) w) 0)) h in
      record { refusal_is = f.0; unknown = f.1.0; untabled = f.1.1 }
    where
      go : (a b c d p q r s : Bool) → cond (cond a b (c && d)) (Ok (cond a (Single id) (Union id))) (Err BadId) ≡ Err e → (e ≡ BadId) × ((cond a (b && p) (c && d && q) ≡ false) × (cond a (b && r) (c && d && s) ≡ false))
      go true true c d p q r s h = absurd (cc)
      go true false c d p q r s h = (cc, (refl, refl))
      go false b true true p q r s h = absurd (cc)
      go false b true false p q r s h = (cc, (refl, refl))
      go false b false d p q r s h = (cc, (refl, refl))

-- what is looked up with its table
module _ (w : List ℕ) (kind id : ℕ) where
  abbrev pub looked_up : Result Requirement Refusal
  looked_up = cond (tabled w kind id) (Ok (requirement_of kind id)) (Err BadId)

  -- where they are decoded
  pub looked_untabled : (r : Requirement) → decoded kind id ≡ Ok r → tabled w (kind_of r) (id_of r) ≡ false → Err BadId ≡ looked_up
  looked_untabled r e f = let d = decoded_facts kind id r e in rw (d.kind_is, d.id_is, f)

  pub looked_tabled : (r : Requirement) → decoded kind id ≡ Ok r → tabled w (kind_of r) (id_of r) ≡ true → Ok r ≡ looked_up
  looked_tabled r e f = let d = decoded_facts kind id r e in rw (d.kind_is, d.id_is, f, requirement_back r)

  -- and where they are not
  pub looked_undecoded : (e : Refusal) → decoded kind id ≡ Err e → Err e ≡ looked_up
  looked_undecoded e h = let u = undecoded kind id w e h in rw (u.untabled, u.refusal_is)

  pub looked_refused : (e : Refusal) → looked_up ≡ Err e → (tabled w kind id ≡ false) × (e ≡ BadId)
  looked_refused e h =
      let p = cond_no (tabled w kind id) (Ok (requirement_of kind id)) (Err BadId) (Err e) h (λ z. cc) in
      (p.0, cc)

  pub tabled_at : (r : Requirement) → looked_up ≡ Ok r → Decoded kind id r × (tabled w kind id ≡ true)
  unfolding tabled requirement_of
  tabled_at r e =
      let p = cond_yes (tabled w kind id) (Ok (requirement_of kind id)) (Err BadId) (Ok r) e (λ z. cc) in
      (go (eqb kind 0) refl p.0 (let z : requirement_of kind id ≡ r = cc in z), p.0)
    where
      go : (b : Bool) → eqb kind 0 ≡ b → cond b (ltb id version_sets && not (eqb (at tables_loaded id w) 0)) (eqb kind 1 && ltb id unions && not (eqb (at tables_loaded (version_sets + id) w) 0)) ≡ true → cond b (Single id) (Union id) ≡ r → Decoded kind id r
      go true q t z = subst (λ x. Decoded kind id x) z (record { kind_is = eqb-true kind 0 q; id_is = refl; named = ltb-true id version_sets (both (ltb id version_sets) (not (eqb (at tables_loaded id w) 0)) t).0 })
      go false q t z =
          let b = both (eqb kind 1 && ltb id unions) (not (eqb (at tables_loaded (version_sets + id) w) 0)) t in
          let c = both (eqb kind 1) (ltb id unions) b.0 in
          subst (λ x. Decoded kind id x) z (record { kind_is = eqb-true kind 1 c.0; id_is = refl; named = ltb-true id unions c.1 })

-- what the code's first step says of looking up
pub ruleset by_decoding = (decoded_named, looked_tabled, looked_undecoded, looked_untabled)
