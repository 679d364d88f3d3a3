-- Arcs as a network keeps them stand for arcs with their labels, whatever is done with them.
use Rattle.std.proofs.Common.{◌≡◌, ℕ, suc, ◌+◌, ◌<◌, List, [], ◌∷◌, ◌++◌, Bool, true, false, not, cond, append-nil, Some, slice_get, get_or, length, map, filter, take, refl, sym, ap, ◌∙◌, arith}
use Rattle.std.proofs.lemmas.List.{map-append, length-map, get_or_append_left, get_or_push, take_more}
use Rattle.std.proofs.lemmas.List.Elements.{filter-append}
use Rattle.std.proofs.lemmas.Option.{slice_get-map, slice_get_read}
use Rattle.std.specs.List.{list_any}
use Rattle.std.specs.Option.{option_map}
use Rattle.alg_model.specs.Expressions.{PureLabel, keep}
use Rattle.alg_model.specs.Views.{pure_label}
use Rattle.alg_model.specs.declared.tree.Label.{Label}
use Rattle.net_graph.specs.Nets.{PureArc, is_arc_between}
use Rattle.net_graph.specs.Lines.{arcs_with}
use Rattle.net_graph.specs.Changes.{relabelled, with_label, numbered_from, without_arc}
use Rattle.net_graph.specs.Kept.{kept_arc, arcs_of, HaveLabels, is_kept_between, kept_with, kept_from, kept_without}
use Rattle.net_graph.specs.NetLaws.{all_weaker, all_passed}
use Rattle.net_graph.specs.declared.arcs.KeptArc.{KeptArc}
use Rattle.net_graph.specs.declared.arcs.LabelId.{LabelId}
use Rattle.net_graph.proofs.NetLemmas.{any_mapped, filter_mapped, all_got}

-- what stands for an arc past the end of a list
abbrev pub no_arc : KeptArc
no_arc = record { id = record { 0 = 0 }; tail = record { 0 = 0 }; head = record { 0 = 0 }; label = record { 0 = 0 } }

-- an arc goes between the same nodes, whatever its label
pub any_kept : (labels : List PureLabel) (tail head : ℕ) (arcs : List KeptArc) → list_any (is_arc_between tail head) (map (kept_arc labels) arcs) ≡ list_any (is_kept_between tail head) arcs
any_kept labels tail head arcs = any_mapped (kept_arc labels) (is_arc_between tail head) arcs

-- a label more changes no arc
same_arc : (labels : List Label) (l : Label) (a : KeptArc) → a.label.0 < length labels → kept_arc (map pure_label (labels ++ l ∷ [])) a ≡ kept_arc (map pure_label labels) a
same_arc labels l a h =
    let within : a.label.0 < length (map pure_label labels) = rw (length-map labels pure_label) h in
    rw (map-append pure_label labels (l ∷ []), get_or_append_left (map pure_label labels) (pure_label l ∷ []) keep a.label.0 within) refl

pub labels_more : (labels : List Label) (l : Label) (arcs : List KeptArc) → HaveLabels (length labels) arcs → arcs_of (labels ++ l ∷ []) arcs ≡ arcs_of labels arcs
labels_more labels l [] h = refl
labels_more labels l (a ∷ arcs) h = rw (same_arc labels l a h.0, labels_more labels l arcs h.1) refl

-- the new label is that of its place
new_label : (labels : List Label) (l : Label) (n : ℕ) → n ≡ length labels → get_or (map pure_label (labels ++ l ∷ [])) n keep ≡ pure_label l
new_label labels l n e = rw (map-append pure_label labels (l ∷ [])) (get_or_push (map pure_label labels) (pure_label l) keep n (length-map labels pure_label ∙ sym e))

pub have_more : (n : ℕ) (arcs : List KeptArc) → HaveLabels n arcs → HaveLabels (n + 1) arcs
have_more n arcs h = all_weaker (λ (a : KeptArc). a.label.0 < n) (λ (a : KeptArc). a.label.0 < n + 1) arcs (λ a w. omega arith) h

-- an arc with a label of its own is added
pub pushed : (labels : List Label) (l : Label) (arcs : List KeptArc) (a : KeptArc) → HaveLabels (length labels) arcs → a.label.0 ≡ length labels → a.id.0 ≡ length arcs
    → arcs_of (labels ++ l ∷ []) (arcs ++ a ∷ []) ≡ arcs_with a.tail.0 a.head.0 (pure_label l) (arcs_of labels arcs)
pushed labels l arcs a h n i =
    rw (map-append (kept_arc (map pure_label (labels ++ l ∷ []))) arcs (a ∷ []), labels_more labels l arcs h, new_label labels l a.label.0 n, i, length-map arcs (kept_arc (map pure_label labels))) refl

-- or with the label of another
pub pushed_like : (labels : List PureLabel) (arcs : List KeptArc) (a like : KeptArc) → a.label.0 ≡ like.label.0 → a.id.0 ≡ length arcs
    → map (kept_arc labels) (arcs ++ a ∷ []) ≡ arcs_with a.tail.0 a.head.0 (kept_arc labels like).label (map (kept_arc labels) arcs)
pushed_like labels arcs a like n i = rw (map-append (kept_arc labels) arcs (a ∷ []), n, i, length-map arcs (kept_arc labels)) refl

-- the arc at a place stands for that of the place
pub kept_at : (labels : List PureLabel) (arcs : List KeptArc) (i : ℕ) (a : KeptArc) → i < length arcs → a ≡ get_or arcs i a → slice_get (map (kept_arc labels) arcs) i ≡ Some (kept_arc labels a)
kept_at labels arcs i a h e = slice_get-map (kept_arc labels) arcs i ∙ ap (option_map (kept_arc labels)) (slice_get_read arcs (length arcs) i a refl h e)

-- and its label is one of the list
pub label_within : (n : ℕ) (arcs : List KeptArc) (i : ℕ) (a : KeptArc) → HaveLabels n arcs → i < length arcs → a ≡ get_or arcs i a → a.label.0 < n
label_within n arcs i a h w e = all_got (λ (b : KeptArc). b.label.0 < n) arcs i a h (slice_get_read arcs (length arcs) i a refl w e)

-- the arc between two nodes gets the new label
relabelled_arc : (labels : List Label) (l : Label) (tail head : ℕ) (n : LabelId) (a : KeptArc) → a.label.0 < length labels → n.0 ≡ length labels
    → kept_arc (map pure_label (labels ++ l ∷ [])) (kept_with tail head n a) ≡ relabelled tail head (pure_label l) (kept_arc (map pure_label labels) a)
relabelled_arc labels l tail head n a h e = by (is_kept_between tail head a) refl
  where
    by : (b : Bool) → is_kept_between tail head a ≡ b → kept_arc (map pure_label (labels ++ l ∷ [])) (kept_with tail head n a) ≡ relabelled tail head (pure_label l) (kept_arc (map pure_label labels) a)
    by true t = rw (t, new_label labels l n.0 e) refl
    by false t = rw (t, same_arc labels l a h) refl

pub relabelled_kept : (labels : List Label) (l : Label) (tail head : ℕ) (n : LabelId) (arcs : List KeptArc) → HaveLabels (length labels) arcs → n.0 ≡ length labels
    → arcs_of (labels ++ l ∷ []) (map (kept_with tail head n) arcs) ≡ with_label tail head (pure_label l) (arcs_of labels arcs)
relabelled_kept labels l tail head n [] h e = refl
relabelled_kept labels l tail head n (a ∷ arcs) h e = rw (relabelled_arc labels l tail head n a h.0 e, relabelled_kept labels l tail head n arcs h.1 e) refl

pub have_relabelled : (tail head : ℕ) (n : LabelId) (arcs : List KeptArc) → HaveLabels n.0 arcs → HaveLabels (n.0 + 1) (map (kept_with tail head n) arcs)
have_relabelled tail head n [] h = tt
have_relabelled tail head n (a ∷ arcs) h = (by (is_kept_between tail head a) refl, have_relabelled tail head n arcs h.1)
  where
    by : (b : Bool) → is_kept_between tail head a ≡ b → (kept_with tail head n a).label.0 < n.0 + 1
    by true t = rw t (omega arith)
    by false t = rw t (let w : a.label.0 < n.0 = h.0 in omega (arith, w))

-- the arc between two nodes is left out
kept_numbered : (labels : List PureLabel) (n : ℕ) (arcs : List KeptArc) → map (kept_arc labels) (kept_from n arcs) ≡ numbered_from n (map (kept_arc labels) arcs)
kept_numbered labels n [] = refl
kept_numbered labels n (a ∷ arcs) = rw (kept_numbered labels (n + 1) arcs) refl

pub without_kept : (labels : List PureLabel) (tail head : ℕ) (arcs : List KeptArc) → map (kept_arc labels) (kept_without tail head arcs) ≡ without_arc tail head (map (kept_arc labels) arcs)
without_kept labels tail head arcs =
    kept_numbered labels 0 (filter (λ (a : KeptArc). not (is_kept_between tail head a)) arcs)
    ∙ ap (numbered_from 0) (filter_mapped (kept_arc labels) (λ (a : PureArc). not (is_arc_between tail head a)) arcs)

have_numbered : (count n : ℕ) (arcs : List KeptArc) → HaveLabels count arcs → HaveLabels count (kept_from n arcs)
have_numbered count n [] h = tt
have_numbered count n (a ∷ arcs) h = (h.0, have_numbered count (n + 1) arcs h.1)

pub have_without : (count tail head : ℕ) (arcs : List KeptArc) → HaveLabels count arcs → HaveLabels count (kept_without tail head arcs)
have_without count tail head arcs h =
    have_numbered count 0 (filter (λ (a : KeptArc). not (is_kept_between tail head a)) arcs)
    (all_passed (λ (a : KeptArc). a.label.0 < count) (λ (a : KeptArc). not (is_kept_between tail head a)) arcs h)

-- one arc more is kept, and gets the next number
numbered_more : (n m : ℕ) (arcs : List KeptArc) (a : KeptArc) → m ≡ n + length arcs → kept_from n (arcs ++ a ∷ []) ≡ kept_from n arcs ++ record a { id = record { 0 = m } } ∷ []
numbered_more n m [] a e = let same : m ≡ n = omega arith in rw same refl
numbered_more n m (b ∷ arcs) a e = ap (λ (zs : List KeptArc). record b { id = record { 0 = n } } ∷ zs) (numbered_more (n + 1) m arcs a (omega arith))

length-kept_from : (n : ℕ) (arcs : List KeptArc) → length (kept_from n arcs) ≡ length arcs
length-kept_from n [] = refl
length-kept_from n (a ∷ arcs) = ap suc (length-kept_from (n + 1) arcs)

pub one_kept : (tail head m : ℕ) (made new arcs : List KeptArc) (i : ℕ) (d : KeptArc) → i < length arcs → is_kept_between tail head (get_or arcs i d) ≡ false
    → new ≡ made ++ record (get_or arcs i d) { id = record { 0 = m } } ∷ [] → m ≡ length made → made ≡ kept_without tail head (take i arcs) → new ≡ kept_without tail head (take (i + 1) arcs)
one_kept tail head m made new arcs i d h other p n e =
    let others : KeptArc → Bool = λ b. not (is_kept_between tail head b) in
    let a = get_or arcs i d in
    let left = filter others (take i arcs) in
    let count : m ≡ length left = n ∙ ap length e ∙ length-kept_from 0 left in
    let passed : filter others (take i arcs ++ a ∷ []) ≡ left ++ a ∷ [] = filter-append others (take i arcs) (a ∷ []) ∙ ap (λ b. left ++ cond (not b) (a ∷ []) []) other in
    rw (p, take_more arcs i d h, passed, numbered_more 0 m left a (omega (arith, count)), e) refl

pub one_left_out : (tail head : ℕ) (made arcs : List KeptArc) (i : ℕ) (d : KeptArc) → i < length arcs → is_kept_between tail head (get_or arcs i d) ≡ true
    → made ≡ kept_without tail head (take i arcs) → made ≡ kept_without tail head (take (i + 1) arcs)
one_left_out tail head made arcs i d h it e =
    let others : KeptArc → Bool = λ b. not (is_kept_between tail head b) in
    let a = get_or arcs i d in
    let left = filter others (take i arcs) in
    let passed : filter others (take i arcs ++ a ∷ []) ≡ left = filter-append others (take i arcs) (a ∷ []) ∙ ap (λ b. left ++ cond (not b) (a ∷ []) []) it ∙ append-nil left in
    rw (take_more arcs i d h, passed) e
