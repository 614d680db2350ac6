-- What may be changed in a rule set, for the theorems that say what becomes of its meaning and of its filters.
use Rattle.std.specs.Prelude.{ℕ, ◌≡◌, Bool, false, ◌||◌, List, [], ◌∷◌, ◌++◌, eqb}
use Rattle.definitions.specs.RuleSet.{Rule, Entry, RuleSet, no_rules}

-- all is the same but for the entries, which are so related
pub record Changed (R : List Entry → List Entry → Type 0) (old new : RuleSet) : Type 0 where
  pub architecture : new.architecture ≡ old.architecture
  pub native_only : new.native_only ≡ old.native_only
  pub mismatch : new.mismatch ≡ old.mismatch
  pub on_match : new.on_match ≡ old.on_match
  pub entries : R old.entries new.entries

-- ---- of any list

-- there is one element more
pub data OneMore {A : Type 0} (old new : List A) : Type 0 where
  more : (front back : List A) (x : A) → old ≡ front ++ back → new ≡ front ++ (x ∷ back) → OneMore old new

-- one element is another, and the two are so related
pub data OneAnother {A : Type 0} (R : A → A → Type 0) (old new : List A) : Type 0 where
  another : (front back : List A) (x y : A) → R x y → old ≡ front ++ (x ∷ back) → new ≡ front ++ (y ∷ back) → OneAnother R old new

-- two neighbours have changed places
pub data Swapped {A : Type 0} (old new : List A) : Type 0 where
  swap : (front back : List A) (x y : A) → old ≡ front ++ (x ∷ (y ∷ back)) → new ≡ front ++ (y ∷ (x ∷ back)) → Swapped old new

-- ---- of entries

-- a number's rules are others, so related
pub record RulesBy (R : List Rule → List Rule → Type 0) (old new : Entry) : Type 0 where
  pub number : new.number ≡ old.number
  pub rules : R old.rules new.rules

-- there is one rule more, where there were some: a number without rules always matches, and a first rule narrows it
pub record MoreRules (old new : List Rule) : Type 0 where
  pub some : no_rules old ≡ false
  pub more : OneMore old new

unfoldable pub is_listed : ℕ → List Entry → Bool
is_listed n [] = false
is_listed n (e ∷ es) = eqb n e.number || is_listed n es

-- a number is listed that was not, or a number that has rules has one more
pub data MoreEntries (old new : List Entry) : Type 0 where
  listing : (before behind : List Entry) (e : Entry) → is_listed e.number old ≡ false
      → old ≡ before ++ behind → new ≡ before ++ (e ∷ behind) → MoreEntries old new
  adding : OneAnother (RulesBy MoreRules) old new → MoreEntries old new

-- number n is listed, or has other rules, whichever
pub data OnlyAt (n : ℕ) (old new : List Entry) : Type 0 where
  enlisted : (before behind : List Entry) (e : Entry) → e.number ≡ n → old ≡ before ++ behind → new ≡ before ++ (e ∷ behind) → OnlyAt n old new
  altered : (before behind : List Entry) (e f : Entry) → e.number ≡ n → f.number ≡ n
      → old ≡ before ++ (e ∷ behind) → new ≡ before ++ (f ∷ behind) → OnlyAt n old new

-- one rule has one condition more
abbrev pub Narrowed : List Entry → List Entry → Type 0
Narrowed old new = OneAnother (RulesBy (OneAnother OneMore)) old new

-- The rules of numbers, and the conditions of rules, are in another order. Any order comes from swaps of neighbours, one after the other.
pub data Reordered : List Entry → List Entry → Type 0 where
  same : (es : List Entry) → Reordered es es
  rules : (old new : List Entry) → OneAnother (RulesBy Swapped) old new → Reordered old new
  conditions : (old new : List Entry) → OneAnother (RulesBy (OneAnother Swapped)) old new → Reordered old new
  after : (old mid new : List Entry) → Reordered old mid → Reordered mid new → Reordered old new
