-- Parts of lists, place by place. Assumes nothing.
use mathlib.Core.List.{List}
use mathlib.Core.Path.{◌≡◌, refl, sym, ◌∙◌}
use Prim.Native.Nat.{ℕ, ◌+◌, ◌-◌, ◌≤◌, ◌<◌}
use native.Mathlib.Omega.{arith}
use lib.ListN.{length, get_or, take, drop, length-take, length-drop}
use lib.Seq.{get_or-take, get_or-drop, ext_get_or, length-take-le}

-- a part of a list, place by place
pub same-run : (n st : ℕ) (a b : List ℕ) → length a ≡ length b → ((i : ℕ) → i < n → get_or a (st + i) 0 ≡ get_or b (st + i) 0) → take n (drop st a) ≡ take n (drop st b)
same-run n st a b e f =
    ext_get_or 0 (take n (drop st a)) (take n (drop st b)) (simp (length-take, length-drop, e) refl)
    (λ i h.
    let k : i < n = omega (arith, length-take n (drop st a)) in
    get_or-take n (drop st a) i 0 k ∙ get_or-drop st a i 0 ∙ f i k ∙ sym (get_or-take n (drop st b) i 0 k ∙ get_or-drop st b i 0))

pub run_is : (n st : ℕ) (a b : List ℕ) → n ≤ length b → st + n ≤ length a → ((i : ℕ) → i < n → get_or a (st + i) 0 ≡ get_or b i 0) → take n (drop st a) ≡ take n b
run_is n st a b h k f =
    let e : length (take n (drop st a)) ≡ n = simp (length-take, length-drop) (omega arith) in
    ext_get_or 0 (take n (drop st a)) (take n b) (e ∙ sym (length-take-le n b h))
    (λ i l.
    let m : i < n = omega arith in
    get_or-take n (drop st a) i 0 m ∙ get_or-drop st a i 0 ∙ f i m ∙ sym (get_or-take n b i 0 m))

-- a list cut at both ends
pub drop_take : (m n : ℕ) (l : List ℕ) → drop m (take n l) ≡ take (n - m) (drop m l)
drop_take m n l =
    ext_get_or 0 (drop m (take n l)) (take (n - m) (drop m l)) (simp (length-take, length-drop) (omega arith))
    (λ i h.
    let k : m + i < n = omega (arith, length-drop m (take n l), length-take n l) in
    get_or-drop m (take n l) i 0
    ∙ get_or-take n l (m + i) 0 k
    ∙ sym (get_or-take (n - m) (drop m l) i 0 (omega arith) ∙ get_or-drop m l i 0))
