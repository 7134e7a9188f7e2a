-- THE FLOAT ORDER IS THE ORDER OF THE BITS, on activities that may be stored: finite numbers with the sign clear (`order`, `order_eq`).
-- And the test of the bits is exactly that (`good-is`). 2139095040 is the pattern of the infinity, one more than the last activity; a
-- pattern has 8388608 = 2 ^ 23 digits below its exponent. Each value is counted in units of 2 ^ -149. Assumes nothing.
use mathlib.Core.Path.{◌≡◌, refl, sym, ap, ◌∙◌, subst}
use mathlib.Core.Logic.{inl, inr}
use Prim.Native.Nat.{ℕ, zero, suc, ◌+◌, ◌*◌, ◌/◌, ◌%◌, ◌^◌, ◌≤◌, ◌<◌}
use native.Mathlib.Nat.{le_antisymm, lt_irrefl, le-add_right, le_of_suc-le-suc, mod-lt, le_trans, le_of_eq, le_of_lt, lt_of_lt_of_le, not-le_of_lt, lt_of_not-le, eq-or-lt_of_le, mod-eq_of_lt, mul-one, mul_assoc, mul-le-mul_right, mul-le-mul_left, mul-lt-mul_of_pos_right, le_of_mul-le-mul_right, pow-succ', le-mul_of_pos_right}
use native.Mathlib.Omega.{arith}
use mathlib.Core.Bool.{Bool, true, false, not, ◌&&◌, cond, true≢false}
use lib.Dec.{T, leb, ltb, eqb, leb→le, ltb→lt, lt→ltb, eqb→eq, le→leb, not_T, T_not, lit<}
use lib.Pow.{pow_pos, pow_mono}
use lib.Ieee.{Float, nan, inf, fin, binary32, up, down, odd, of_fields, of_bits, is_nan, nan_bits, to_bits, fits, lt, eq, ne}
use lib.Ieee.Bits.{is_false, cond_no, nan_bits_is, to_bits-of_bits, of_bits-to_bits, to_bits-lt}
use lib.Ieee.Fits.{down_pos, and_i, and_l, and_r, eq→eqb}
use lib.Ieee.Exact.{HasValue, odd_sign}
use lib.Ieee.Order.{transfer}
use borrow.Author.Tests.{lt-ltb, le-ltb, ltb-true}
use Rattle.rules.specs.Activity.{good, last_activity}

-- two values that are not negative, each a whole number of one unit 1 / c: their order is that of the numbers
same_test : (a b : Bool) → (T a → T b) → (T b → T a) → a ≡ b
same_test true true p q = refl
same_test true false p q = absurd (p tt)
same_test false true p q = absurd (q tt)
same_test false false p q = refl

module _ (c : ℕ) (C : 0 < c) where
  -- num x / den x ≤ num y / den y from a ≤ b
  up_le : (x y de dd a b : ℕ) → x * c ≡ a * de → y * c ≡ b * dd → a ≤ b → x * dd ≤ y * de
  up_le x y de dd a b p q h = transfer x y de dd a b c c C C p q (mul-le-mul_right c h)

  -- and back
  down_le : (x y de dd a b : ℕ) → 0 < de → 0 < dd → x * c ≡ a * de → y * c ≡ b * dd → x * dd ≤ y * de → a ≤ b
  down_le x y de dd a b D E p q h = le_of_mul-le-mul_right (transfer a b c c x y de dd D E (sym p) (sym q) h) C

  lt-fin : (x y de dd a b : ℕ) → 0 < de → 0 < dd → x * c ≡ a * de → y * c ≡ b * dd → ltb (x * dd) (y * de) ≡ ltb a b
  lt-fin x y de dd a b D E p q =
      same_test (ltb (x * dd) (y * de)) (ltb a b)
      (λ t. lt→ltb a b (lt_of_not-le (λ (g : b ≤ a). not-le_of_lt (ltb→lt (x * dd) (y * de) t) (up_le y x dd de b a q p g))))
      (λ t. lt→ltb (x * dd) (y * de) (lt_of_not-le (λ (g : y * de ≤ x * dd). not-le_of_lt (ltb→lt a b t) (down_le y x dd de b a E D q p g))))

  lt-of-values : (x y : Float) (a b : ℕ) → HasValue x false a c → HasValue y false b c → lt x y ≡ ltb a b
  unfolding lt
  lt-of-values nan y a b p q = absurd p
  lt-of-values (inf s) y a b p q = absurd p
  lt-of-values (fin true m e) y a b p q = absurd (true≢false p.0)
  lt-of-values (fin false m e) nan a b p q = absurd q
  lt-of-values (fin false m e) (inf t) a b p q = absurd q
  lt-of-values (fin false m e) (fin true n d) a b p q = absurd (true≢false q.0)
  lt-of-values (fin false m e) (fin false n d) a b p q = lt-fin (m * up e) (n * up d) (down e) (down d) a b (down_pos e) (down_pos d) p.1 q.1

  eq-fin : (x y de dd a b : ℕ) → 0 < de → 0 < dd → x * c ≡ a * de → y * c ≡ b * dd → (eqb (x * dd) (y * de) && true) ≡ eqb a b
  eq-fin x y de dd a b D E p q =
      same_test (eqb (x * dd) (y * de) && true) (eqb a b)
      (λ t.
      let e : x * dd ≡ y * de = eqb→eq (x * dd) (y * de) (and_l (eqb (x * dd) (y * de)) true t) in
      eq→eqb (le_antisymm (down_le x y de dd a b D E p q (le_of_eq e)) (down_le y x dd de b a E D q p (le_of_eq (sym e)))))
      (λ t.
      let e : a ≡ b = eqb→eq a b t in
      and_i (eqb (x * dd) (y * de)) true (eq→eqb (le_antisymm (up_le x y de dd a b p q (le_of_eq e)) (up_le y x dd de b a q p (le_of_eq (sym e))))) tt)

  eq-of-values : (x y : Float) (a b : ℕ) → HasValue x false a c → HasValue y false b c → eq x y ≡ eqb a b
  unfolding eq
  eq-of-values nan y a b p q = absurd p
  eq-of-values (inf s) y a b p q = absurd p
  eq-of-values (fin true m e) y a b p q = absurd (true≢false p.0)
  eq-of-values (fin false m e) nan a b p q = absurd q
  eq-of-values (fin false m e) (inf t) a b p q = absurd q
  eq-of-values (fin false m e) (fin true n d) a b p q = absurd (true≢false q.0)
  eq-of-values (fin false m e) (fin false n d) a b p q = eq-fin (m * up e) (n * up d) (down e) (down d) a b (down_pos e) (down_pos d) p.1 q.1

-- what number a pattern stands for, in units of 2 ^ -149
of_bits_is : (b : ℕ) → of_bits binary32 b ≡ of_fields binary32 (leb 2147483648 b) (b % 2147483648 / 8388608) (b % 8388608)
unfolding of_bits
of_bits_is b = refl

below_top : (b : ℕ) → b < 2139095040 → of_bits binary32 b ≡ of_fields binary32 false (b / 8388608) (b % 8388608)
below_top b h =
    let s : b < 2147483648 = omega arith in
    of_bits_is b
    ∙ ap (λ (t : Bool). of_fields binary32 t (b % 2147483648 / 8388608) (b % 8388608)) (is_false (leb 2147483648 b) (not_T (leb 2147483648 b) (λ u. not-le_of_lt s (leb→le 2147483648 b u))))
    ∙ ap (λ (x : ℕ). of_fields binary32 false (x / 8388608) (b % 8388608)) (mod-eq_of_lt s)

-- an exponent's field of 0 counts as one of 1, and has no leading digit
abbrev val : ℕ → ℕ → ℕ
val zero t = t
val (suc x) t = (8388608 + t) * 2 ^ x

abbrev units : ℕ → ℕ
units b = val (b / 8388608) (b % 8388608)

differ : (x : ℕ) → suc x < 255 → suc x ≡ 255 → ⊥
differ x h e = omega arith

fields_is : (x t : ℕ) → x < 255 → HasValue (of_fields binary32 false x t) false (val x t) (2 ^ 149)
unfolding of_fields
fields_is zero t h = subst (λ (n : ℕ). HasValue (odd 24 false t 0 149) false n (2 ^ 149)) (mul-one t) (odd_sign 24 false t 0 149)
fields_is (suc x) t h =
    subst (λ (v : Float). HasValue v false ((8388608 + t) * 2 ^ x) (2 ^ 149))
    (sym (cond_no (eqb (suc x) 255) (cond (eqb t 0) (inf false) nan) (odd 24 false (8388608 + t) x 149) (not_T (eqb (suc x) 255) (λ u. differ x h (eqb→eq (suc x) 255 u)))))
    (odd_sign 24 false (8388608 + t) x 149)

value : (b : ℕ) → b < 2139095040 → HasValue (of_bits binary32 b) false (units b) (2 ^ 149)
value b h = subst (λ (v : Float). HasValue v false (units b) (2 ^ 149)) (sym (below_top b h)) (fields_is (b / 8388608) (b % 8388608) (omega arith))

-- a larger pattern stands for a larger number
val_fields : (x t y u : ℕ) → t < 8388608 → x < y → val x t < val y u
val_fields x t zero u h k = absurd (not-le_of_lt k (omega arith))
val_fields zero t (suc y) u h k = lt_of_lt_of_le h (le_trans (le-add_right 8388608 u) (le-mul_of_pos_right (8388608 + u) (pow_pos y)))
val_fields (suc x) t (suc y) u h k =
    lt_of_lt_of_le (mul-lt-mul_of_pos_right {m = 8388608 + t} {n = 8388608 * 2} (omega arith) (pow_pos x))
    (le_trans (le_of_eq (mul_assoc 8388608 2 (2 ^ x) ∙ ap (λ (z : ℕ). 8388608 * z) (sym (pow-succ' 2 x))))
    (le_trans (mul-le-mul_left 8388608 (pow_mono (le_of_suc-le-suc k))) (mul-le-mul_right {m = 8388608} {n = 8388608 + u} (2 ^ y) (le-add_right 8388608 u))))

val_digits : (x t u : ℕ) → t < u → val x t < val x u
val_digits zero t u h = h
val_digits (suc x) t u h = mul-lt-mul_of_pos_right {m = 8388608 + t} {n = 8388608 + u} (omega arith) (pow_pos x)

fields_le : (a b : ℕ) → a < b → a / 8388608 ≤ b / 8388608
fields_le a b h = omega arith

digits_lt : (a b : ℕ) → a < b → a / 8388608 ≡ b / 8388608 → a % 8388608 < b % 8388608
digits_lt a b h e = omega arith

units_lt : (a b : ℕ) → a < b → units a < units b
units_lt a b h =
    elim (eq-or-lt_of_le (fields_le a b h)) [
      | inl e ↦ subst (λ (x : ℕ). units a < val x (b % 8388608)) e (val_digits (a / 8388608) (a % 8388608) (b % 8388608) (digits_lt a b h e))
      | inr l ↦ val_fields (a / 8388608) (a % 8388608) (b / 8388608) (b % 8388608) (mod-lt a (lit< tt)) l
    ]

units_ltb : (a b : ℕ) → ltb (units a) (units b) ≡ ltb a b
units_ltb a b =
    same_test (ltb (units a) (units b)) (ltb a b)
    (λ t. lt→ltb a b (lt_of_not-le (λ (g : b ≤ a). not-le_of_lt (ltb→lt (units a) (units b) t) (back g))))
    (λ t. lt→ltb (units a) (units b) (units_lt a b (ltb→lt a b t)))
  where
    back : b ≤ a → units b ≤ units a
    back g = elim (eq-or-lt_of_le g) [ inl e ↦ le_of_eq (ap units e) | inr l ↦ le_of_lt (units_lt b a l) ]

-- the law
pub order : (a b : ℕ) → a < 2139095040 → b < 2139095040 → lt (of_bits binary32 a) (of_bits binary32 b) ≡ ltb a b
order a b h k = lt-of-values (2 ^ 149) (pow_pos 149) (of_bits binary32 a) (of_bits binary32 b) (units a) (units b) (value a h) (value b k) ∙ units_ltb a b

units_eqb : (a b : ℕ) → eqb (units a) (units b) ≡ eqb a b
units_eqb a b =
    same_test (eqb (units a) (units b)) (eqb a b)
    (λ t.
    let e : units a ≡ units b = eqb→eq (units a) (units b) t in
    eq→eqb (le_antisymm (not_above {x = a} {y = b} e) (not_above {x = b} {y = a} (sym e))))
    (λ t. eq→eqb (ap units (eqb→eq a b t)))
  where
    not_above : {x y : ℕ} → units x ≡ units y → x ≤ y
    not_above {x} {y} e = le_of_suc-le-suc (lt_of_not-le (λ (g : suc y ≤ x). lt_irrefl (units y) (subst (λ (n : ℕ). units y < n) e (units_lt y x g))))

pub order_eq : (a b : ℕ) → a < 2139095040 → b < 2139095040 → eq (of_bits binary32 a) (of_bits binary32 b) ≡ eqb a b
order_eq a b h k = eq-of-values (2 ^ 149) (pow_pos 149) (of_bits binary32 a) (of_bits binary32 b) (units a) (units b) (value a h) (value b k) ∙ units_eqb a b

-- such a pattern is no NaN's
has_no_nan : (x : Float) (a c : ℕ) → HasValue x false a c → T (not (is_nan x))
unfolding is_nan
has_no_nan nan a c p = absurd p
has_no_nan (inf s) a c p = absurd p
has_no_nan (fin s m e) a c p = tt

no_nan : (a : ℕ) → a < 2139095040 → T (not (is_nan (of_bits binary32 a)))
no_nan a h = has_no_nan (of_bits binary32 a) (units a) (2 ^ 149) (value a h)

pub no_nan_bits : (a : ℕ) → a < 2139095040 → T (not (nan_bits binary32 a))
no_nan_bits a h = subst (λ (b : Bool). T (not b)) (sym (nan_bits_is binary32 a)) (no_nan a h)

-- the pattern comes back
pub back_bits : (a : ℕ) → a < 2139095040 → to_bits binary32 (of_bits binary32 a) ≡ a
back_bits a h = to_bits-of_bits binary32 a (omega arith) (no_nan a h)

-- what the range test says: the value is finite with the sign clear (`good`)
good_odd : (d : ℕ) (s : Bool) (q k l : ℕ) → good (odd d s q k l) ≡ not s
unfolding odd good
good_odd d true zero k l = refl
good_odd d false zero k l = refl
good_odd d true (suc q) k l = refl
good_odd d false (suc q) k l = refl

pick_good : (a b s : Bool) (v : Float) → good v ≡ not s → good (cond a (cond b (inf s) nan) v) ≡ (not s && not a)
unfolding good
pick_good true true true v h = refl
pick_good true true false v h = refl
pick_good true false true v h = refl
pick_good true false false v h = refl
pick_good false b true v h = h
pick_good false b false v h = h

good_fields : (s : Bool) (x t : ℕ) → good (of_fields binary32 s x t) ≡ (not s && not (eqb x 255))
unfolding of_fields
good_fields true zero t = good_odd 24 true t 0 149
good_fields false zero t = good_odd 24 false t 0 149
good_fields s (suc x) t = pick_good (eqb (suc x) 255) (eqb t 0) s (odd 24 s (8388608 + t) x 149) (good_odd 24 s (8388608 + t) x 149)

from-tests : (w : ℕ) → w < 4294967296 → (2147483648 ≤ w → ⊥) → (w % 2147483648 / 8388608 ≡ 255 → ⊥) → w < 2139095040
from-tests w h a b = omega arith

pub good_bits : (w : ℕ) → w < 4294967296 → good (of_bits binary32 w) ≡ ltb w 2139095040
good_bits w h =
    let s = leb 2147483648 w in
    let x = w % 2147483648 / 8388608 in
    ap good (of_bits_is w) ∙ good_fields s x (w % 8388608)
    ∙ same_test (not s && not (eqb x 255)) (ltb w 2139095040)
    (λ t.
    lt→ltb w 2139095040
    (from-tests w h (λ g. T_not s (and_l (not s) (not (eqb x 255)) t) (le→leb 2147483648 w g)) (λ g. T_not (eqb x 255) (and_r (not s) (not (eqb x 255)) t) (eq→eqb g))))
    (λ t.
    let l : w < 2139095040 = ltb→lt w 2139095040 t in
    and_i (not s) (not (eqb x 255)) (not_T s (λ u. let g : 2147483648 ≤ w = leb→le 2147483648 w u in omega arith)) (not_T (eqb x 255) (λ u. let g : x ≡ 255 = eqb→eq x 255 u in omega arith)))

-- of any value that the format holds
pub good-is : (v : Float) → T (fits binary32 v) → good v ≡ ltb (to_bits binary32 v) 2139095040
good-is v f = ap good (sym (of_bits-to_bits binary32 v f)) ∙ good_bits (to_bits binary32 v) (to_bits-lt binary32 v f)

-- the code's test of the bits
module _ (v : Float) (f : T (fits binary32 v)) where
  pub good-within : to_bits binary32 v ≤ last_activity → good v ≡ true
  good-within h = good-is v f ∙ lt-ltb (to_bits binary32 v) 2139095040 (omega arith)

  pub good_bits_in : good v ≡ true → to_bits binary32 v ≤ last_activity
  good_bits_in g =
      let l = ltb-true (to_bits binary32 v) 2139095040 (sym (good-is v f) ∙ g) in
      omega arith

  pub good-beyond : last_activity < to_bits binary32 v → good v ≡ false
  good-beyond h = good-is v f ∙ le-ltb (to_bits binary32 v) 2139095040 (omega arith)

-- a value that does not differ from itself is no NaN
pub same_no_nan : (x : Float) → ne x x ≡ false → T (not (is_nan x))
unfolding is_nan ne
same_no_nan nan e = absurd (true≢false e)
same_no_nan (inf s) e = tt
same_no_nan (fin s m d) e = tt
