-- A value that hangs on a test, by cases on the test: the values are read off the goal, so that a proof does not write them again.
use mathlib.Core.Path.{◌≡◌, refl}
use mathlib.Core.Bool.{Bool, true, false, cond}

pub cond_case : {A : Type 0} (P : A → Type 0) (b : Bool) (x y : A) → (b ≡ true → P x) → (b ≡ false → P y) → P (cond b x y)
cond_case P true x y f g = f refl
cond_case P false x y f g = g refl

pub elim_case : {A : Type 0} (P : A → Type 0) (b : Bool) (x y : A) → (b ≡ true → P x) → (b ≡ false → P y)
    → P (elim b as (λ (t : Bool). A) [ true ↦ x | false ↦ y ])
elim_case P true x y f g = f refl
elim_case P false x y f g = g refl

-- two values that hang on one test
pub cond_cases : {A B : Type 0} (P : A → B → Type 0) (b : Bool) (x y : A) (z w : B) → (b ≡ true → P x z) → (b ≡ false → P y w)
    → P (cond b x y) (cond b z w)
cond_cases P true x y z w f g = f refl
cond_cases P false x y z w f g = g refl
