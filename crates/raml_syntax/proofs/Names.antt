-- A name is found among the entries as in the list of definitions.
use Rattle.std.proofs.Common.{◌≡◌, ℕ, List, [], ◌∷◌, ◌++◌, Bool, true, false, cond, ◌||◌, bytes_eq, Option, Some, None, option_map, is_some, IfSome, MatchOption, Bor, refl, sym, ap, subst, ◌∙◌, true≢false, arith}
use Rattle.std.proofs.lemmas.Bool.{or_left, or_right}
use Rattle.std.proofs.lemmas.Slice.Eq.{bytes_eq-Decides}
use Rattle.std.specs.Map.{lookup as entry_of}
use Rattle.indexmap.specs.IndexMap.{insert_entry}
use Rattle.alg_model.specs.Expressions.{Expression}
use Rattle.raml_syntax.specs.declared.forest.TreeId.{TreeId}
use Rattle.raml_syntax.specs.Syntax.{is_among}
use Rattle.raml_syntax.specs.Meaning.{Definition, lookup}
use Rattle.raml_syntax.specs.Forest.{IsTree, tree_at, Extends}
use Rattle.raml_syntax.specs.Definitions.{names_of, latest_first, HaveTrees, AreApart}

abbrev Entry : Type 0
Entry = Bor (List ℕ) × TreeId

-- whether the key is this name
abbrev pub has_key : List ℕ → Bor (List ℕ) → Bool
has_key w v = bytes_eq w v.now

-- what the first entry of the name stands for
abbrev found : List Expression → List Entry → List ℕ → Option Expression
found ts es w = option_map (tree_at ts) (entry_of (has_key w) es)

abbrev first_of : Option Expression → Option Expression → Option Expression
first_of None b = b
first_of (Some a) b = Some a

-- one name is another exactly if the other is the one
pub same_back : (v w : List ℕ) → bytes_eq v w ≡ bytes_eq w v
same_back v w = by (bytes_eq v w) (bytes_eq w v) refl refl
  where
    by : (a b : Bool) → bytes_eq v w ≡ a → bytes_eq w v ≡ b → a ≡ b
    by true true p q = refl
    by false false p q = refl
    by true false p q = absurd (true≢false (sym ((bytes_eq-Decides w v).1 (sym ((bytes_eq-Decides v w).0 p))) ∙ q))
    by false true p q = absurd (true≢false (sym ((bytes_eq-Decides v w).1 (sym ((bytes_eq-Decides w v).0 q))) ∙ p))

-- the definitions after those of the entries
apart_following : (ts : List Expression) (es : List Entry) (ds : List Definition) → AreApart (latest_first ts es ds) → AreApart ds
apart_following ts [] ds h = h
apart_following ts (e ∷ es) ds h = (apart_following ts es (record { name = e.0.now; expression = tree_at ts e.1 } ∷ ds) h).1

-- a name that is defined after the entries is none of theirs
not_found : (ts : List Expression) (es : List Entry) (ds : List Definition) (w : List ℕ) → AreApart (latest_first ts es ds) → is_among (names_of ds) w ≡ true → found ts es w ≡ None
not_found ts [] ds w h m = refl
not_found ts (e ∷ es) ds w h m =
    by (not_found ts es more w h (or_right (bytes_eq e.0.now w) (is_among (names_of ds) w) m)) (bytes_eq w e.0.now) refl
  where
    more : List Definition
    more = record { name = e.0.now; expression = tree_at ts e.1 } ∷ ds

    by : found ts es w ≡ None → (b : Bool) → bytes_eq w e.0.now ≡ b → option_map (tree_at ts) (cond b (Some e.1) (entry_of (has_key w) es)) ≡ None
    by f false p = f
    by f true p =
        let same : w ≡ e.0.now = (bytes_eq-Decides w e.0.now).0 p in
        absurd (true≢false (sym m ∙ ap (is_among (names_of ds)) same ∙ (apart_following ts es more h).0))

-- what a name stands for, with the entries in front of other definitions
lookup_latest : (ts : List Expression) (es : List Entry) (ds : List Definition) (w : List ℕ) → AreApart (latest_first ts es ds) → lookup (latest_first ts es ds) w ≡ first_of (found ts es w) (lookup ds w)
lookup_latest ts [] ds w h = refl
lookup_latest ts (e ∷ es) ds w h =
    lookup_latest ts es more w h
    ∙ ap (λ b. first_of (found ts es w) (cond b (Some (tree_at ts e.1)) (lookup ds w))) (same_back e.0.now w)
    ∙ by (bytes_eq w e.0.now) (λ p. not_found ts es more w h (or_left (bytes_eq e.0.now w) (is_among (names_of ds) w) (same_back e.0.now w ∙ p)))
  where
    more : List Definition
    more = record { name = e.0.now; expression = tree_at ts e.1 } ∷ ds

    by : (b : Bool) → (b ≡ true → found ts es w ≡ None)
        → first_of (found ts es w) (cond b (Some (tree_at ts e.1)) (lookup ds w)) ≡ first_of (option_map (tree_at ts) (cond b (Some e.1) (entry_of (has_key w) es))) (lookup ds w)
    by false f = refl
    by true f = ap (λ o. first_of o (Some (tree_at ts e.1))) (f refl)

first_alone : (o : Option Expression) → first_of o None ≡ o
first_alone None = refl
first_alone (Some a) = refl

-- what a name stands for
pub lookup_entries : (ts : List Expression) (es : List Entry) (w : List ℕ) → AreApart (latest_first ts es []) → lookup (latest_first ts es []) w ≡ option_map (tree_at ts) (entry_of (has_key w) es)
lookup_entries ts es w h = lookup_latest ts es [] w h ∙ first_alone (found ts es w)

-- a name is defined exactly if it stands for something
among_lookup : (ds : List Definition) (w : List ℕ) → is_among (names_of ds) w ≡ is_some (lookup ds w)
among_lookup [] w = refl
among_lookup (d ∷ ds) w = by (bytes_eq d.name w) (among_lookup ds w)
  where
    by : (b : Bool) → is_among (names_of ds) w ≡ is_some (lookup ds w) → (b || is_among (names_of ds) w) ≡ is_some (cond b (Some d.expression) (lookup ds w))
    by true h = refl
    by false h = h

some_mapped : {A B : Type 0} → (f : A → B) (o : Option A) → is_some (option_map f o) ≡ is_some o
some_mapped f None = refl
some_mapped f (Some t) = refl

pub has_entry : (ts : List Expression) (es : List Entry) (w : List ℕ) → AreApart (latest_first ts es []) → is_some (entry_of (has_key w) es) ≡ is_among (names_of (latest_first ts es [])) w
has_entry ts es w h =
    sym (some_mapped (tree_at ts) (entry_of (has_key w) es)) ∙ ap is_some (sym (lookup_entries ts es w h)) ∙ sym (among_lookup (latest_first ts es []) w)

-- an entry after the others is the latest definition
latest_last : (ts : List Expression) (es : List Entry) (e : Entry) (ds : List Definition) → latest_first ts (es ++ e ∷ []) ds ≡ record { name = e.0.now; expression = tree_at ts e.1 } ∷ latest_first ts es ds
latest_last ts [] e ds = refl
latest_last ts (x ∷ es) e ds = latest_last ts es e (record { name = x.0.now; expression = tree_at ts x.1 } ∷ ds)

-- an entry of a name that isn't there comes last
insert_last : (es : List Entry) (key : Bor (List ℕ)) (t : TreeId) → is_some (entry_of (has_key key.now) es) ≡ false → insert_entry (λ u. has_key u.now) es key t ≡ es ++ (key, t) ∷ []
insert_last [] key t h = refl
insert_last (e ∷ es) key t h = by (λ g. insert_last es key t g) (bytes_eq key.now e.0.now) h
  where
    by : (is_some (entry_of (has_key key.now) es) ≡ false → insert_entry (λ u. has_key u.now) es key t ≡ es ++ (key, t) ∷ [])
        → (b : Bool) → is_some (cond b (Some e.1) (entry_of (has_key key.now) es)) ≡ false
        → cond b ((e.0, t) ∷ es) (e ∷ insert_entry (λ u. has_key u.now) es key t) ≡ e ∷ (es ++ (key, t) ∷ [])
    by more true g = absurd (true≢false g)
    by more false g = ap (λ l. e ∷ l) (more g)

-- the definitions after a name that isn't there was inserted
pub inserted : (ts : List Expression) (es new : List Entry) (key : Bor (List ℕ)) (t : TreeId)
    → new ≡ insert_entry (λ u. has_key u.now) es key t → AreApart (latest_first ts es []) → is_among (names_of (latest_first ts es [])) key.now ≡ false
    → latest_first ts new [] ≡ record { name = key.now; expression = tree_at ts t } ∷ latest_first ts es []
inserted ts es new key t e apart absent =
    let none : is_some (entry_of (has_key key.now) es) ≡ false = has_entry ts es key.now apart ∙ absent in
    ap (λ l. latest_first ts l []) (e ∙ insert_last es key t none) ∙ latest_last ts es (key, t) []

-- and no name is there twice
pub inserted_apart : (ts : List Expression) (es new : List Entry) (key : Bor (List ℕ)) (t : TreeId)
    → new ≡ insert_entry (λ u. has_key u.now) es key t → AreApart (latest_first ts es []) → is_among (names_of (latest_first ts es [])) key.now ≡ false
    → AreApart (latest_first ts new [])
inserted_apart ts es new key t e apart absent = subst AreApart (sym (inserted ts es new key t e apart absent)) (absent, apart)

have_last : (ts : List Expression) (es : List Entry) (e : Entry) → HaveTrees ts es → IsTree ts e.1 → HaveTrees ts (es ++ e ∷ [])
have_last ts [] e h i = (i, tt)
have_last ts (x ∷ es) e h i = (h.0, have_last ts es e h.1 i)

-- and each name stands for one of the trees
pub inserted_trees : (ts : List Expression) (es new : List Entry) (key : Bor (List ℕ)) (t : TreeId)
    → new ≡ insert_entry (λ u. has_key u.now) es key t → AreApart (latest_first ts es []) → is_among (names_of (latest_first ts es [])) key.now ≡ false
    → HaveTrees ts es → IsTree ts t → HaveTrees ts new
inserted_trees ts es new key t e apart absent h i =
    let none : is_some (entry_of (has_key key.now) es) ≡ false = has_entry ts es key.now apart ∙ absent in
    subst (HaveTrees ts) (sym (e ∙ insert_last es key t none)) (have_last ts es (key, t) h i)

-- a number that was found is that of the tree that the name stands for
pub found_tree : (r : Option TreeId) (ts : List Expression) (es : List Entry) (w : List ℕ) → AreApart (latest_first ts es []) → r ≡ entry_of (has_key w) es
    → MatchOption r (lookup (latest_first ts es []) w ≡ None) (λ t. lookup (latest_first ts es []) w ≡ Some (tree_at ts t))
found_tree None ts es w h e = lookup_entries ts es w h ∙ ap (option_map (tree_at ts)) (sym e)
found_tree (Some t) ts es w h e = lookup_entries ts es w h ∙ ap (option_map (tree_at ts)) (sym e)

-- and there is such a tree
pub is_tree : (r : Option TreeId) (ts : List Expression) (es : List Entry) (w : List ℕ) → HaveTrees ts es → r ≡ entry_of (has_key w) es → IfSome r (IsTree ts)
is_tree r ts es w h e = subst (λ o. IfSome o (IsTree ts)) (sym e) (among es h)
  where
    among : (es : List Entry) → HaveTrees ts es → IfSome (entry_of (has_key w) es) (IsTree ts)
    among [] h = tt
    among (x ∷ es) h = by (bytes_eq w x.0.now) (among es h.1)
      where
        by : (b : Bool) → IfSome (entry_of (has_key w) es) (IsTree ts) → IfSome (cond b (Some x.1) (entry_of (has_key w) es)) (IsTree ts)
        by true i = h.0
        by false i = i

-- With more trees the definitions are the same.

pub latest_kept : (old new : List Expression) (es : List Entry) (ds : List Definition) → Extends old new → HaveTrees old es → latest_first new es ds ≡ latest_first old es ds
latest_kept old new [] ds x h = refl
latest_kept old new (e ∷ es) ds x h =
    ap (λ a. latest_first new es (record { name = e.0.now; expression = a } ∷ ds)) (x.same e.1 h.0)
    ∙ latest_kept old new es (record { name = e.0.now; expression = tree_at old e.1 } ∷ ds) x h.1

pub trees_kept : (old new : List Expression) (es : List Entry) → Extends old new → HaveTrees old es → HaveTrees new es
trees_kept old new [] x h = tt
trees_kept old new (e ∷ es) x h = (omega (arith, x.longer, h.0), trees_kept old new es x h.1)
