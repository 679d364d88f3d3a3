-- Forms of labels that are made one after another, as the labels' numbers come up.
use Rattle.std.proofs.Common.{◌≡◌, ◌≢◌, ◌⊎◌, inl, inr, arith, ℕ, zero, suc, ◌+◌, ◌<◌, ◌≤◌, List, [], ◌∷◌, true, Option, Some, None, is_some, length, map, option_map, get_or, set, replicate, slice_get, refl, ap, sym, subst, ◌∙◌}
use Rattle.std.proofs.lemmas.Bool.{cases_order}
use Rattle.std.proofs.lemmas.List.{get_or-set_other, get_or-set_same, length-replicate}
use Rattle.std.proofs.lemmas.Option.{same_Some, slice_get-map, slice_get_cases, slice_get_read, slice_get_within, get_or_from_slice_get}
use Rattle.alg_model.specs.Expressions.{PureLabel}
use Rattle.net_graph.specs.LabelLaws.{label_at}
use Rattle.net_graph.specs.LabelNumbers.{AreLabelNumbers}
use Rattle.net_graph.specs.Nets.{PureArc, PureNet}
use Rattle.arc_labels.specs.Forms.{AreForms, HasForm, HasPlace, form_at, forms_at}

-- each form stands for the label of its number, and that of each arc so far was made
pub record AreMade {L : Type 0} (stands_for : L → PureLabel → Type 0) (net : PureNet) (numbers : List ℕ) (upto : ℕ) (forms : List (Option L)) : Type 0 where
  pub numbered : AreLabelNumbers net numbers
  pub stand : (n : ℕ) (form : L) (label : PureLabel) → form_at forms n ≡ Some form → slice_get numbered.labels n ≡ Some label → stands_for form label
  pub made : (k n : ℕ) → k < upto → slice_get numbers k ≡ Some n → HasPlace forms n

-- two numbers are equal or not
equal_or : (i j : ℕ) → (i ≡ j) ⊎ (i ≢ j)
equal_or i j = elim (cases_order i j) [
  | inl same ↦ inl same
  | inr apart ↦ inr (λ e. elim apart [ inl less ↦ absurd (omega (arith, less, e)) | inr less ↦ absurd (omega (arith, less, e)) ])
]

nothing : {L : Type 0} (count n : ℕ) (form : L) → get_or (replicate count None) n None ≡ Some form → ⊥
nothing zero n form e = absurd (cc)
nothing (suc count) zero form e = absurd (cc)
nothing (suc count) (suc n) form e = nothing count n form e

pub none_count : {L : Type 0} (forms : List (Option L)) (count : ℕ) → forms ≡ replicate count None → length forms ≡ count
none_count {L} forms count e = let none : Option L = None in ap length e ∙ length-replicate count none

-- before any was made
pub none_made : {L : Type 0} (stands_for : L → PureLabel → Type 0) (net : PureNet) (numbers : List ℕ) (count : ℕ) → AreLabelNumbers net numbers → AreMade stands_for net numbers 0 (replicate count None)
none_made stands_for net numbers count numbered = record {
  numbered = numbered;
  stand = λ n form label e at. absurd (nothing count n form e);
  made = λ k n less at. absurd (omega (arith, less));
}

-- the number of one more arc has a place already
pub one_kept : {L : Type 0} (stands_for : L → PureLabel → Type 0) (net : PureNet) (numbers : List ℕ) (k n : ℕ) (forms : List (Option L)) → AreMade stands_for net numbers k forms
    → slice_get numbers k ≡ Some n → HasPlace forms n → AreMade stands_for net numbers (k + 1) forms
one_kept stands_for net numbers k n forms m number place = record {
  numbered = m.numbered;
  stand = m.stand;
  made = λ i j less at. elim (order_or i k less) [
    | inl same ↦ subst (HasPlace forms) (same_Some n j (sym number ∙ (ap (slice_get numbers) (sym same) ∙ at))) place
    | inr before ↦ m.made i j before at
  ];
}
  where
    order_or : (i k : ℕ) → i < k + 1 → (i ≡ k) ⊎ (i < k)
    order_or i k less = elim (cases_order i k) [ inl same ↦ inl same | inr apart ↦ inr (elim apart [ inl l ↦ l | inr l ↦ absurd (omega (arith, l, less)) ]) ]

-- the form of one more arc's label is made
pub one_made : {L : Type 0} (stands_for : L → PureLabel → Type 0) (net : PureNet) (numbers : List ℕ) (k n : ℕ) (forms : List (Option L)) (form : L) (arc : PureArc) → AreMade stands_for net numbers k forms
    → slice_get numbers k ≡ Some n → slice_get net.arcs k ≡ Some arc → n < length forms → stands_for form arc.label → AreMade stands_for net numbers (k + 1) (set forms n (Some form))
one_made {L} stands_for net numbers k n forms form arc m number at within stands = one_kept stands_for net numbers k n (set forms n (Some form)) so_far number (record { form = form; at = get_or-set_same forms n (Some form) None within })
  where
    so_far : AreMade stands_for net numbers k (set forms n (Some form))
    so_far = record {
      numbered = m.numbered;
      stand = λ i f label e there. elim (equal_or i n) [
        | inl same ↦
            let is : f ≡ form = same_Some f form (sym e ∙ (ap (λ x. get_or (set forms n (Some form)) x None) same ∙ get_or-set_same forms n (Some form) None within)) in
            let l : label ≡ arc.label = same_Some label arc.label (sym there ∙ (ap (slice_get m.numbered.labels) same ∙ label_at net numbers m.numbered k n arc number at)) in
            rw (is, l) stands
        | inr apart ↦ m.stand i f label (sym (get_or-set_other forms n i (Some form) None apart) ∙ e) there
      ];
      made = λ i j less there. elim (equal_or j n) [
        | inl same ↦ record { form = form; at = ap (λ x. get_or (set forms n (Some form)) x None) same ∙ get_or-set_same forms n (Some form) None within }
        | inr apart ↦ let place = m.made i j less there in record { form = place.form; at = get_or-set_other forms n j (Some form) None apart ∙ place.at }
      ];
    }

-- a place in which there is something
pub some_place : {L : Type 0} (forms : List (Option L)) (n : ℕ) (o : Option L) → n < length forms → o ≡ get_or forms n o → is_some o ≡ true → HasPlace forms n
some_place forms n None within at some = absurd (cc)
some_place forms n (Some form) within at some = record { form = form; at = get_or_from_slice_get forms n (Some form) None (slice_get_read forms (length forms) n (Some form) refl within at) }

-- what stands at an arc, by the number of its label
pub at_number : {L : Type 0} (forms : List (Option L)) (numbers : List ℕ) (k n : ℕ) → slice_get numbers k ≡ Some n → form_at (forms_at forms numbers) k ≡ get_or forms n None
at_number {L} forms numbers k n number =
    let form : ℕ → Option L = λ m. get_or forms m None in
    get_or_from_slice_get (map form numbers) k (form n) None (slice_get-map form numbers k ∙ ap (option_map form) number)

-- what is read at a number
pub read_at : {L : Type 0} (forms : List (Option L)) (n : ℕ) (o : Option L) → n < length forms → o ≡ get_or forms n o → get_or forms n None ≡ o
read_at forms n o within at = get_or_from_slice_get forms n o None (slice_get_read forms (length forms) n o refl within at)

-- what has a form is within
pub place_within : {L : Type 0} (forms : List (Option L)) (k : ℕ) → HasPlace forms k → k < length forms
place_within [] k place = absurd (let at = place.at in cc)
place_within (form ∷ forms) zero place = omega arith
place_within (form ∷ forms) (suc k) place = let more = place_within forms k (record { form = place.form; at = place.at }) in omega (arith, more)

-- once those of all arcs were made
pub all_made : {L : Type 0} (stands_for : L → PureLabel → Type 0) (net : PureNet) (numbers : List ℕ) (upto : ℕ) (forms : List (Option L)) → length net.arcs ≤ upto
    → AreMade stands_for net numbers upto forms → AreForms stands_for net (forms_at forms numbers)
all_made {L} stands_for net numbers upto forms all m k arc at = by (slice_get_cases numbers k).1
  where
    within : k < length net.arcs
    within = slice_get_within net.arcs k arc at

    numbered : (n : ℕ) → slice_get numbers k ≡ Some n → HasForm stands_for (forms_at forms numbers) k arc.label
    numbered n number =
        let place = m.made k n (omega (arith, within, all)) number in
        record { form = place.form; at = at_number forms numbers k n number ∙ place.at; stands = m.stand n place.form arc.label place.at (label_at net numbers m.numbered k n arc number at) }

    by : ((n : ℕ) × (k < length numbers) × (slice_get numbers k ≡ Some n) × (get_or numbers k n ≡ n)) ⊎ ((length numbers ≤ k) × (slice_get numbers k ≡ None)) → HasForm stands_for (forms_at forms numbers) k arc.label
    by (inl (n, less, number, same)) = numbered n number
    by (inr (past, none)) = absurd (let count = m.numbered.count in omega (arith, within, past, count))
