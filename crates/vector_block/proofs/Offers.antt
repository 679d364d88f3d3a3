-- What a neighbour offers, and what that and the row settle.
use Rattle.std.proofs.Common.{◌≡◌, ◌≢◌, ◌⊎◌, inl, inr, ℕ, ◌==◌, List, ◌∷◌, Bool, true, false, not, ◌&&◌, Option, Some, None, IfSome, cond, subst, refl, sym, ap, ◌∙◌, arith}
use Rattle.std.specs.Prelude.{option_map, option_and_then}
use Rattle.std.specs.Ordering.{ordering_index, ordering_then, ordering_reverse}
use Rattle.std.specs.declared.cmp.Ordering.{Ordering}
use Rattle.std.specs.declared.cmp.Ordering.TheVariants.{Less, Equal, Greater}
use Rattle.std.specs.Str.{bytes_eq}
use Rattle.std.proofs.lemmas.Bool.{and_parts}
use Rattle.std.proofs.lemmas.Bool.Decides.{nat_tests}
use Rattle.std.proofs.lemmas.Slice.Eq.{bytes_eq-Decides}
use Rattle.alg_model.specs.Application.{App}
use Rattle.alg_model.specs.Carriers.{In, Order}
use Rattle.alg_model.specs.Expressions.{PureCarrier, PureValue}
use Rattle.alg_model.specs.Laws.{total_preorder}
use Rattle.alg_model.specs.Tests.{same_value, same_value-Decides}
use Rattle.arc_labels.specs.Images.{made_in}
use Rattle.meta_base.specs.declared.ids.NodeId.{NodeId}
use Rattle.meta_base.specs.NodePaths.{compare_paths, numbers}
use Rattle.net_graph.specs.Nets.{PureArc, PureNet}
use Rattle.net_graph.specs.RouteLaws.{paths_equal, paths_flip}
use Rattle.net_graph.specs.RouteLaws as laws
use Rattle.net_graph.specs.RouteOrder.{better_asymmetric}
use Rattle.net_graph.specs.Routes.{PureRoute, Better, compare_routes}
use Rattle.net_graph.specs.Tables.{carrier, is_among}
use Rattle.path_store.specs.declared.trails.PathId.{PathId}
use Rattle.path_store.specs.PathOf.{path_by, path_of}
use Rattle.path_vector.proofs.PathTests.{and_false, and_true, other_paths, same_paths}
use Rattle.path_vector.specs.Node.{begins_with, offer_by, same_route}
use Rattle.path_vector.specs.Settling.{goes_by, is_next, is_worse, settled}
use Rattle.vector_block.specs.declared.look.Finding.{Finding}
use Rattle.vector_block.specs.declared.look.Finding.TheVariants as finding
use Rattle.vector_block.specs.declared.report.Choice.{Choice}
use Rattle.vector_block.specs.declared.report.Reported.{Reported}
use Rattle.vector_block.specs.Hearings.{IsFinding}
use Rattle.vector_block.specs.Stores.{chosen_route, route_of}

-- ---- an offer

module _ {S : Type 0} (value : S → PureValue) (net : PureNet) (a : PureArc) (paths : List (List NodeId)) (r : Reported S) (node : ℕ) (tail : a.tail ≡ node) where
  -- an arc offers the value that its label makes of a route that doesn't pass the listener
  pub offer_made : is_among (numbers (path_of paths r.path)) node ≡ false → (o : Option S) → option_map value o ≡ App net.alg.expression a.label (value r.sig)
      → option_map {U = PureRoute} (λ s. record { value = value s; path = node ∷ numbers (path_of paths r.path) }) o ≡ offer_by net a (route_of value paths r)
  offer_made among o image = rw (tail, among, ← image) (by o)
    where
      by : (o : Option S) → option_map {U = PureRoute} (λ s. record { value = value s; path = node ∷ numbers (path_of paths r.path) }) o
          ≡ option_map {U = PureRoute} (λ v. record { value = v; path = node ∷ numbers (path_of paths r.path) }) (option_map value o)
      by None = refl
      by (Some s) = refl

  -- and none where the route passes it
  pub none_offered : is_among (numbers (path_of paths r.path)) node ≡ true → (place : Option S)
      → option_map {U = PureRoute} (λ s. record { value = value s; path = node ∷ numbers (path_of paths r.path) }) (made_in false place) ≡ offer_by net a (route_of value paths r)
  none_offered among None = rw (tail, among) refl
  none_offered among (Some s) = rw (tail, among) refl

module _ {S : Type 0} (value : S → PureValue) (net : PureNet) (a : PureArc) (node : ℕ) (said : Option PureRoute) (r : PureRoute) (place : Option S) (is : said ≡ Some r) where
  -- what stands in the place is what the arc offers
  pub offered_there : (placed : Bool) (sig : S) → option_map {U = PureRoute} (λ s. record { value = value s; path = node ∷ r.path }) (made_in placed place) ≡ offer_by net a r → placed ≡ true → place ≡ Some sig
      → option_and_then (offer_by net a) said ≡ Some (record { value = value sig; path = node ∷ r.path })
  offered_there placed sig e there stands = rw is (sym e ∙ rw (there, stands) refl)

  -- and where nothing stands there it offers none
  pub offered_none : (placed : Bool) → option_map {U = PureRoute} (λ s. record { value = value s; path = node ∷ r.path }) (made_in placed place) ≡ offer_by net a r → made_in placed place ≡ None
      → option_and_then (offer_by net a) said ≡ None
  offered_none placed e nothing = rw is (sym e ∙ rw nothing refl)

pub not_placed : {S : Type 0} (placed : Bool) (place : Option S) → placed ≡ false → made_in placed place ≡ None
not_placed placed None e = refl
not_placed placed (Some s) e = rw e refl

pub none_placed : {S : Type 0} (placed : Bool) (place : Option S) → place ≡ None → made_in placed place ≡ None
none_placed placed place e = rw e refl

-- ---- an offer and a row

module _ (c : PureCarrier) (x b : PureRoute) (x_in : In c x.value) (b_in : In c b.value) where
  routes_flip : compare_routes c b x ≡ ordering_reverse (compare_routes c x b)
  routes_flip = by (Order c x.value b.value) (Order c b.value x.value) (compare_paths x.path b.path) (compare_paths b.path x.path) ((total_preorder c).flip x.value b.value x_in b_in) (paths_flip x.path b.path)
    where
      by : (o p q r : Ordering) → p ≡ ordering_reverse o → r ≡ ordering_reverse q → ordering_then p r ≡ ordering_reverse (ordering_then o q)
      by o p q r e f = grind arith

  -- an offer that is better than the row, or as good, isn't worse, and one that comes after it is
  pub better_not_worse : compare_routes c x b ≡ Less → is_worse c (Some x) (Some b) ≡ false
  better_not_worse e = rw (routes_flip, e) refl

  pub alike_not_worse : compare_routes c x b ≡ Equal → is_worse c (Some x) (Some b) ≡ false
  alike_not_worse e = rw (routes_flip, e) refl

  pub later_worse : compare_routes c x b ≡ Greater → is_worse c (Some x) (Some b) ≡ true
  later_worse e = rw (routes_flip, e) refl

  routes_are_one : same_value x.value b.value ≡ true → bytes_eq x.path b.path ≡ true → x ≡ b
  routes_are_one e f = laws.same_route x b ((same_value-Decides x.value b.value).0 e) ((bytes_eq-Decides x.path b.path).0 f)

  -- a route that is better is another
  pub better_is_other : compare_routes c x b ≡ Less → same_route x b ≡ false
  better_is_other e = by (same_route x b) refl
    where
      by : (s : Bool) → same_route x b ≡ s → s ≡ false
      by false f = refl
      by true f =
          let both = and_parts (same_value x.value b.value) (bytes_eq x.path b.path) f in
          let one = routes_are_one both.0 both.1 in
          absurd (better_asymmetric c x b x_in b_in e (subst (λ z. Better c z x) one (subst (λ z. Better c x z) (sym one) e)))

  -- of routes that are alike the paths are one
  pub alike_paths : compare_routes c x b ≡ Equal → bytes_eq x.path b.path ≡ true
  alike_paths e = same_paths x.path b.path (by (Order c x.value b.value) (compare_paths x.path b.path) e)
    where
      by : (o p : Ordering) → ordering_then o p ≡ Equal → p ≡ Equal
      by o p f = grind arith

-- ---- what is found

-- the row isn't lost to the offer: it is worse, or there is none
abbrev pub IsPassed : PureCarrier → Option PureRoute → Option PureRoute → Type 0
IsPassed c row offer = (is_worse c offer row ≡ true) ⊎ (offer ≡ None)

module _ {S : Type 0} (is_sig : S → Type 0) (value : S → PureValue) (c : PureCarrier) (speaker node : ℕ) (row said offer : Option PureRoute) where
  -- the offer of a value is compared with the row
  pub record IsLook (sig : S) (r b : PureRoute) : Type 0 where
    pub row_is : row ≡ Some b
    pub said_is : said ≡ Some r
    pub offer_is : offer ≡ Some (record { value = value sig; path = node ∷ r.path })
    pub sig_is : is_sig sig
    pub offer_in : In c (value sig)
    pub row_in : In c b.value

  pub better_taken : (sig : S) (r b : PureRoute) → IsLook sig r b → compare_routes c (record { value = value sig; path = node ∷ r.path }) b ≡ Less
      → IsFinding is_sig value c speaker node row said offer (Some sig) finding.Takes
  better_taken sig r b l e =
      let x : PureRoute = record { value = value sig; path = node ∷ r.path } in
      let fine = better_not_worse c x b l.offer_in l.row_in e in
      let other = better_is_other c x b l.offer_in l.row_in e in
      (sig, refl, l.sig_is, r, l.said_is, l.offer_is, rw (l.offer_is, l.row_is, fine) refl, rw (l.offer_is, l.row_is) other)

  pub alike_found : (sig : S) (r b : PureRoute) → IsLook sig r b → compare_routes c (record { value = value sig; path = node ∷ r.path }) b ≡ Equal
      → (f : Finding) → f ≡ cond (same_value (value sig) b.value) finding.Stays finding.Takes → IsFinding is_sig value c speaker node row said offer (Some sig) f
  alike_found sig r b l e f is = subst (IsFinding is_sig value c speaker node row said offer (Some sig)) (sym is) (by (same_value (value sig) b.value) refl)
    where
      x : PureRoute
      x = record { value = value sig; path = node ∷ r.path }

      fine : is_worse c (Some x) (Some b) ≡ false
      fine = alike_not_worse c x b l.offer_in l.row_in e

      paths : bytes_eq x.path b.path ≡ true
      paths = alike_paths c x b l.offer_in l.row_in e

      by : (s : Bool) → same_value (value sig) b.value ≡ s → IsFinding is_sig value c speaker node row said offer (Some sig) (cond s finding.Stays finding.Takes)
      by true g = rw (l.offer_is, l.row_is, fine) (ap (λ z. Some (Some z)) (routes_are_one c x b l.offer_in l.row_in g paths))
      by false g = (sig, refl, l.sig_is, r, l.said_is, l.offer_is, rw (l.offer_is, l.row_is, fine) refl, rw (l.offer_is, l.row_is, g) refl)

  pub later_passed : (sig : S) (r b : PureRoute) → IsLook sig r b → compare_routes c (record { value = value sig; path = node ∷ r.path }) b ≡ Greater → IsPassed c row offer
  later_passed sig r b l e = inl (rw (l.offer_is, l.row_is) (later_worse c (record { value = value sig; path = node ∷ r.path }) b l.offer_in l.row_in e))

-- what stands in the place is the offer, which is compared with the row
pub looked_at : {S : Type 0} (is_sig : S → Type 0) (value : S → PureValue) (net : PureNet) (a : PureArc) (speaker node : ℕ) (row said : Option PureRoute) (r b : PureRoute) (placed : Bool) (place : Option S) (sig : S)
    → ((x : S) → is_sig x → In (carrier net) (value x)) → Some r ≡ said → Some b ≡ row → In (carrier net) b.value → IfSome (made_in placed place) is_sig
    → option_map {U = PureRoute} (λ s. record { value = value s; path = node ∷ r.path }) (made_in placed place) ≡ offer_by net a r → placed ≡ true → place ≡ Some sig
    → IsLook is_sig value (carrier net) speaker node row said (option_and_then (offer_by net a) said) sig r b
looked_at is_sig value net a speaker node row said r b placed place sig sigs_in said_is row_is row_in sig_is e there stands =
    let is : is_sig sig = rw (there, stands) at sig_is in
    record {
      row_is = sym row_is;
      said_is = sym said_is;
      offer_is = offered_there value net a node said r place (sym said_is) placed sig e there stands;
      sig_is = is;
      offer_in = sigs_in sig is;
      row_in = row_in;
    }

module _ (c : PureCarrier) (speaker : ℕ) (row offer : Option PureRoute) (passed : IsPassed c row offer) where
  passed_worse : (b : PureRoute) → row ≡ Some b → is_worse c offer row ≡ true
  passed_worse b e = by passed
    where
      by : IsPassed c row offer → is_worse c offer row ≡ true
      by (inl worse) = worse
      by (inr none) = rw (none, e) refl

  -- a row by the speaker is lost then, and another stays
  pub row_lost : (b : PureRoute) → row ≡ Some b → is_next speaker b.path ≡ true → settled c speaker row offer ≡ None
  row_lost b e next = rw (passed_worse b e, ap (goes_by speaker) e ∙ next) refl

  pub row_stays : (b : PureRoute) → row ≡ Some b → is_next speaker b.path ≡ false → settled c speaker row offer ≡ Some row
  row_stays b e next = rw (passed_worse b e, ap (goes_by speaker) e ∙ next) refl

  pub none_stays : row ≡ None → settled c speaker row offer ≡ Some row
  none_stays e = by passed
    where
      by : IsPassed c row offer → settled c speaker row offer ≡ Some row
      by (inl worse) = absurd (let f : is_worse c offer None ≡ true = rw e at worse in cc)
      by (inr none) = rw (none, e) refl

-- ---- the node after the first

pub same_next : (next j : ℕ) → next ≡ j → (next == j) ≡ true
same_next next j e = grind (arith, nat_tests)

pub other_next : (next j : ℕ) → ¬ (next ≡ j) → (next == j) ≡ false
other_next next j f = grind (arith, nat_tests)

pub speaker_apart : (a : PureArc) (speaker node : ℕ) → a.head ≡ speaker → a.tail ≡ node → (a.head == a.tail) ≡ false → (speaker == node) ≡ false
speaker_apart a speaker node e f apart = rw (e, f) at apart

-- ---- a choice and a row

-- what a test of an order tells
pub is_equal : (o : Ordering) → not (ordering_index o == 1) ≡ false → o ≡ Equal
is_equal Less e = absurd (cc)
is_equal Equal e = refl
is_equal Greater e = absurd (cc)

pub is_unequal : (o : Ordering) → not (ordering_index o == 1) ≡ true → o ≢ Equal
is_unequal Less e = λ f. cc
is_unequal Equal e = absurd (cc)
is_unequal Greater e = λ f. cc

module _ {S : Type 0} (value : S → PureValue) (paths : List (List NodeId)) (node : ℕ) (best : Choice S) (row : Reported S) (rest : Option PathId) (first : NodeId)
    (goes : path_of paths row.path ≡ first ∷ path_by paths rest) (begins : begins_with node (numbers (path_of paths row.path)) ≡ true)
  where
    left : List ℕ
    left = numbers (path_by paths best.rest)

    right : List ℕ
    right = numbers (path_by paths rest)

    -- the row's path is the node, and then what it goes on along
    row_path : numbers (path_of paths row.path) ≡ node ∷ right
    unfolding right
    row_path =
        let e : (first.0 == node) ≡ true = rw goes at begins in
        let same : first.0 ≡ node = grind (arith, nat_tests) in
        ap numbers goes ∙ ap (λ n. n ∷ numbers (path_by paths rest)) same

    -- the choice is the row where both go on along one path and their values are one
    pub choice_is_row : compare_paths (numbers (path_by paths best.rest)) (numbers (path_by paths rest)) ≡ Equal → same_value (value best.sig) (value row.sig) ≡ same_route (chosen_route value paths node best) (route_of value paths row)
    unfolding left right
    choice_is_row e =
        let one : (node ∷ left) ≡ (node ∷ right) = ap (λ p. node ∷ p) (paths_equal left right e) in
        let same : bytes_eq (node ∷ left) (numbers (path_of paths row.path)) ≡ true = (bytes_eq-Decides (node ∷ left) (numbers (path_of paths row.path))).1 (one ∙ sym row_path) in
        sym (ap (λ b. same_value (value best.sig) (value row.sig) && b) same ∙ and_true (same_value (value best.sig) (value row.sig)))

    pub choice_is_other : compare_paths (numbers (path_by paths best.rest)) (numbers (path_by paths rest)) ≢ Equal → false ≡ same_route (chosen_route value paths node best) (route_of value paths row)
    unfolding left right
    choice_is_other f =
        let apart : bytes_eq (node ∷ left) (numbers (path_of paths row.path)) ≡ false = by (bytes_eq (node ∷ left) (numbers (path_of paths row.path))) refl in
        sym (ap (λ b. same_value (value best.sig) (value row.sig) && b) apart ∙ and_false (same_value (value best.sig) (value row.sig)))
      where
        by : (b : Bool) → bytes_eq (node ∷ left) (numbers (path_of paths row.path)) ≡ b → b ≡ false
        by false e = refl
        by true e =
            let one : (node ∷ left) ≡ (node ∷ right) = (bytes_eq-Decides (node ∷ left) (numbers (path_of paths row.path))).0 e ∙ row_path in
            let rests : left ≡ right = cc in
            let same = (bytes_eq-Decides left right).1 rests in
            absurd (let other = other_paths left right f in cc)
