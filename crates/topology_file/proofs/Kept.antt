-- What holds of all that the lines of a text give: the network is over the algebra, and its changes are
-- few and may be made.
use Rattle.std.proofs.Common.{◌≡◌, ◌≤◌, ◌<◌, ◌+◌, ℕ, Bool, true, false, ◌||◌, cond, eqb, ltb, leb, List, [], ◌∷◌, ◌++◌, length, Option, Some, None, Result, Ok, Err, IfOk, refl, ap, ◌∙◌, subst, arith}
use Rattle.std.proofs.lemmas.List.{length_push}
use Rattle.std.proofs.lemmas.Bool.Decides.{nat_tests}
use Rattle.std.specs.Option.{ok_or}
use Rattle.alg_model.specs.Expressions.{PureAlg, PureLabel, PureValue}
use Rattle.alg_model.specs.Application.{IsLabel}
use Rattle.alg_model.specs.Bounds.{LabelAtMost, greatest_number}
use Rattle.net_graph.specs.declared.limits.TheConstants.{MAX_ARCS}
use Rattle.net_graph.specs.Limits.{max_nodes, max_changes}
use Rattle.net_graph.specs.Nets.{PureNet, number_of, has_arc}
use Rattle.net_graph.specs.Lines.{with_node, with_arc, with_origin, with_origin_of}
use Rattle.net_graph.specs.Changes.{PureChange, link, drop, MayChange, AreChanges}
use Rattle.net_graph.specs.Laws.{are_changes_more}
use Rattle.sig_text.specs.declared.faults.LitFault.{LitFault}
use Rattle.sig_text.specs.Literals.{LabelText, Spelling, SpellsLabel, IsSpelling}
use Rattle.topology_file.specs.declared.faults.NetKind.{NetKind}
use Rattle.topology_file.specs.declared.faults.NetKind.TheVariants.{BadLine, UnknownNode, NodeTwice, ArcTwice, SelfArc, OriginTwice, TooMany, AfterThen, NoArc}
use Rattle.topology_file.specs.declared.faults.What.TheVariants.{Nodes, Arcs, Dests, Changes}
use Rattle.topology_file.specs.declared.network.TheConstants.{MAX_LINE_BYTES}
use Rattle.topology_file.specs.Texts.{lines_of, said_of}
use Rattle.topology_file.specs.Forms as forms
use Rattle.topology_file.specs.NetText.{PureNetFile, empty_file, changed_net, and_then, if_room, node_in, apart, ends_in, as_label, label_in, value_in, names_twice, with_nodes, after_nodes, one_arc, link_between, after_link, two_arcs, both_between, after_both, has_origin_of, has_room_for, one_origin, origin_at, after_origin, with_change, has_room_to_link, one_link, after_then_link, one_drop, after_then_drop, has_changes, with_net, before_changes, after_form, after_line, Lead, NetText}
use Rattle.topology_file.specs.LineErrors.{AreEnds}
use Rattle.topology_file.proofs.NameLists.{named_within}
use Rattle.topology_file.proofs.Steps.{may_link}

-- what holds of what comes of two steps, of a choice, and of what there may be no room for
then_keeps : {A B : Type 0} (P : B → Type 0) (r : Result A NetKind) (next : A → Result B NetKind) → ((a : A) → r ≡ Ok a → IfOk (next a) P) → IfOk (and_then r next) P
then_keeps {A} P r next k = by r refl
  where
    by : (s : Result A NetKind) → r ≡ s → IfOk (and_then s next) P
    by (Ok a) e = k a e
    by (Err kind) e = tt

if_keeps : {B : Type 0} (P : B → Type 0) (b : Bool) (r s : Result B NetKind) → (b ≡ true → IfOk r P) → (b ≡ false → IfOk s P) → IfOk (cond b r s) P
if_keeps P true r s h k = h refl
if_keeps P false r s h k = k refl

-- a network that comes of it has this algebra
abbrev HasAlg : PureAlg → PureNet → Type 0
HasAlg a net = net.alg ≡ a

kept_nodes : (net : PureNet) (names : List (List ℕ)) → (with_nodes net names).alg ≡ net.alg
kept_nodes net [] = refl
kept_nodes net (name ∷ names) = kept_nodes (with_node net name) names

nodes_keep : (net : PureNet) (names : List (List ℕ)) → IfOk (after_nodes net names) (HasAlg net.alg)
nodes_keep net names =
    let room = leb (length net.nodes + length names) (max_nodes net.alg.edition) in
    if_keeps (HasAlg net.alg) (names_twice net.nodes names) (Err NodeTwice) (if_room room Nodes (with_nodes net names)) (λ _. tt)
    (λ _. if_keeps (HasAlg net.alg) room (Ok (with_nodes net names)) (Err (TooMany Nodes)) (λ _. kept_nodes net names) (λ _. tt))

one_arc_keeps : (net : PureNet) (tail head : ℕ) (l : PureLabel) → IfOk (one_arc net tail head l) (HasAlg net.alg)
one_arc_keeps net tail head l = if_keeps (HasAlg net.alg) (leb (length net.arcs + 1) MAX_ARCS) (Ok (with_arc net tail head l)) (Err (TooMany Arcs)) (λ _. refl) (λ _. tt)

two_arcs_keep : (net : PureNet) (tail head : ℕ) (l : PureLabel) → IfOk (two_arcs net tail head l) (HasAlg net.alg)
two_arcs_keep net tail head l = if_keeps (HasAlg net.alg) (leb (length net.arcs + 2) MAX_ARCS) (Ok (with_arc (with_arc net tail head l) head tail l)) (Err (TooMany Arcs)) (λ _. refl) (λ _. tt)

link_keeps : (s : Spelling) (net : PureNet) (a b text : List ℕ) → IfOk (after_link s net a b text) (HasAlg net.alg)
link_keeps s net a b text = then_keeps (HasAlg net.alg) (ends_in net a b) (λ ends. link_between s net text ends.0 ends.1) (λ ends _.
    if_keeps (HasAlg net.alg) (has_arc net ends.0 ends.1) (Err ArcTwice) (and_then (label_in s net.alg text) (one_arc net ends.0 ends.1)) (λ _. tt)
    (λ _. then_keeps (HasAlg net.alg) (label_in s net.alg text) (one_arc net ends.0 ends.1) (λ l _. one_arc_keeps net ends.0 ends.1 l)))

both_keeps : (s : Spelling) (net : PureNet) (a b text : List ℕ) → IfOk (after_both s net a b text) (HasAlg net.alg)
both_keeps s net a b text = then_keeps (HasAlg net.alg) (ends_in net a b) (λ ends. both_between s net text ends.0 ends.1) (λ ends _.
    if_keeps (HasAlg net.alg) (has_arc net ends.0 ends.1 || has_arc net ends.1 ends.0) (Err ArcTwice) (and_then (label_in s net.alg text) (two_arcs net ends.0 ends.1)) (λ _. tt)
    (λ _. then_keeps (HasAlg net.alg) (label_in s net.alg text) (two_arcs net ends.0 ends.1) (λ l _. two_arcs_keep net ends.0 ends.1 l)))

one_origin_keeps : (net : PureNet) (dest : List ℕ) (node : ℕ) (v : PureValue) → IfOk (one_origin net dest node v) (HasAlg net.alg)
one_origin_keeps net dest node v = if_keeps (HasAlg net.alg) (has_room_for net (number_of net.dests dest)) (Ok (with_origin net dest node v)) (Err (TooMany Dests)) (λ _. by (number_of net.dests dest)) (λ _. tt)
  where
    by : (d : Option ℕ) → (with_origin_of net d dest node v).alg ≡ net.alg
    by None = refl
    by (Some d) = refl

origin_keeps : (s : Spelling) (net : PureNet) (dest a text : List ℕ) → IfOk (after_origin s net dest a text) (HasAlg net.alg)
origin_keeps s net dest a text = then_keeps (HasAlg net.alg) (node_in net a) (origin_at s net dest text) (λ node _.
    if_keeps (HasAlg net.alg) (has_origin_of net (number_of net.dests dest) node) (Err OriginTwice) (and_then (value_in s net.alg text) (one_origin net dest node)) (λ _. tt)
    (λ _. then_keeps (HasAlg net.alg) (value_in s net.alg text) (one_origin net dest node) (λ v _. one_origin_keeps net dest node v)))

-- what is kept of all that was given so far
pub record IsKept (alg : PureAlg) (f : PureNetFile) : Type 0 where
  pub alg_is : f.net.alg ≡ alg
  pub few : length f.changes ≤ max_changes alg.edition
  pub may : AreChanges f.net f.changes

before_keeps : (alg : PureAlg) (f : PureNetFile) (made : Result PureNet NetKind) → IsKept alg f → IfOk made (HasAlg f.net.alg) → IfOk (before_changes f made) (IsKept alg)
before_keeps alg f made k h = by f.changes refl
  where
    new : (net : PureNet) → f.changes ≡ [] → made ≡ Ok net → IsKept alg (record f { net = net })
    new net none e =
        let same : net.alg ≡ f.net.alg = subst (λ r. IfOk r (HasAlg f.net.alg)) e h in
        record { alg_is = same ∙ k.alg_is; few = k.few; may = rw none tt }

    by : (cs : List PureChange) → f.changes ≡ cs → IfOk (cond (has_changes cs) (Err AfterThen) (and_then made (with_net f))) (IsKept alg)
    by [] e = then_keeps (IsKept alg) made (with_net f) (λ net is. new net e is)
    by (c ∷ cs) e = tt

change_keeps : (alg : PureAlg) (f : PureNetFile) (c : PureChange) → IsKept alg f → MayChange (changed_net f) c → IfOk (with_change f c) (IsKept alg)
change_keeps alg f c k may =
    if_keeps (IsKept alg) (ltb (length f.changes) (max_changes f.net.alg.edition)) (Ok (record f { changes = f.changes ++ c ∷ [] })) (Err (TooMany Changes)) room (λ _. tt)
  where
    room : ltb (length f.changes) (max_changes f.net.alg.edition) ≡ true → IsKept alg (record f { changes = f.changes ++ c ∷ [] })
    room r =
        let within : length f.changes < max_changes alg.edition = let below = rw k.alg_is at r in grind (arith, nat_tests) in
        let more = length_push f.changes c in
        record { alg_is = k.alg_is; few = omega arith; may = are_changes_more f.net f.changes c k.may may }

abbrev ends_or : Result (ℕ × ℕ) NetKind → ℕ × ℕ → ℕ × ℕ
ends_or (Ok ends) other = ends
ends_or (Err kind) other = other

apart_is : (t h tail head : ℕ) → apart t h ≡ Ok (tail, head) → (t ≡ tail) × (h ≡ head) × (eqb t h ≡ false)
apart_is t h tail head e = by (eqb t h) refl e
  where
    by : (b : Bool) → eqb t h ≡ b → cond {A = Result (ℕ × ℕ) NetKind} b (Err SelfArc) (Ok (t, h)) ≡ Ok (tail, head) → (t ≡ tail) × (h ≡ head) × (eqb t h ≡ false)
    by true f g = absurd (cc)
    by false f g =
        let same : (t, h) ≡ (tail, head) = ap (λ r. ends_or r (tail, head)) g in
        (ap (λ (p : ℕ × ℕ). p.0) same, ap (λ (p : ℕ × ℕ). p.1) same, f)

-- the nodes of two names are nodes, and differ
ends_are : (net : PureNet) (a b : List ℕ) (tail head : ℕ) → ends_in net a b ≡ Ok (tail, head) → AreEnds net tail head
ends_are net a b tail head e = by (number_of net.nodes a) (number_of net.nodes b) refl refl e
  where
    by : (x y : Option ℕ) → number_of net.nodes a ≡ x → number_of net.nodes b ≡ y
        → and_then (ok_or x UnknownNode) (λ t. and_then (ok_or y UnknownNode) (apart t)) ≡ Ok (tail, head) → AreEnds net tail head
    by None y p q g = absurd (cc)
    by (Some t) None p q g = absurd (cc)
    by (Some t) (Some h) p q g =
        let is = apart_is t h tail head g in
        let first = named_within net.nodes a t p in
        let second = named_within net.nodes b h q in
        let differ = is.2 in
        rw (← is.0, ← is.1) (record { tail_in = first; head_in = second; apart = grind (arith, nat_tests) })

-- what a text spells as a label is one, with numbers that its edition allows
abbrev pub AreLabels : Type 0
AreLabels = (a : PureAlg) (text : List ℕ) (l : PureLabel) → LabelText a text l → IsLabel a.expression l × LabelAtMost (greatest_number a.edition) l

abbrev SpellLabels : Spelling → Type 0
SpellLabels s = (a : PureAlg) (text : List ℕ) (l : PureLabel) → s.label a text ≡ Ok l → IsLabel a.expression l × LabelAtMost (greatest_number a.edition) l

spell_labels : AreLabels → (s : Spelling) → IsSpelling s → SpellLabels s
spell_labels good s i a text l e = good a text l (subst (SpellsLabel a text) e (i.labels a text))

label_is : (s : Spelling) (alg : PureAlg) (text : List ℕ) (l : PureLabel) → label_in s alg text ≡ Ok l → s.label alg text ≡ Ok l
label_is s alg text l e = by (s.label alg text) e
  where
    by : (r : Result PureLabel LitFault) → as_label r ≡ Ok l → r ≡ Ok l
    by (Ok m) g = cc
    by (Err fault) g = absurd (cc)

then_link_keeps : (s : Spelling) → SpellLabels s → (alg : PureAlg) (f : PureNetFile) (a b text : List ℕ) → IsKept alg f → IfOk (after_then_link s f a b text) (IsKept alg)
then_link_keeps s labels alg f a b text k =
    then_keeps (IsKept alg) (ends_in f.net a b) (λ ends. and_then (label_in s f.net.alg text) (one_link f ends.0 ends.1)) (λ ends is.
    then_keeps (IsKept alg) (label_in s f.net.alg text) (one_link f ends.0 ends.1) (λ l spells.
    if_keeps (IsKept alg) (has_room_to_link f ends.0 ends.1) (with_change f (link ends.0 ends.1 l)) (Err (TooMany Arcs))
    (λ room.
    let good = labels f.net.alg text l (label_is s f.net.alg text l spells) in
    change_keeps alg f (link ends.0 ends.1 l) k (may_link f ends.0 ends.1 l (ends_are f.net a b ends.0 ends.1 is) good.0 good.1 room))
    (λ _. tt)))

then_drop_keeps : (alg : PureAlg) (f : PureNetFile) (a b : List ℕ) → IsKept alg f → IfOk (after_then_drop f a b) (IsKept alg)
then_drop_keeps alg f a b k =
    then_keeps (IsKept alg) (ends_in f.net a b) (λ ends. one_drop f ends.0 ends.1) (λ ends _.
    if_keeps (IsKept alg) (has_arc (changed_net f) ends.0 ends.1) (with_change f (drop ends.0 ends.1)) (Err NoArc)
    (λ there. change_keeps alg f (drop ends.0 ends.1) k there) (λ _. tt))

form_keeps : (s : Spelling) → SpellLabels s → (alg : PureAlg) (f : PureNetFile) (line : forms.PureLine) → IsKept alg f → IfOk (after_form s f line) (IsKept alg)
form_keeps s labels alg f forms.silent k = k
form_keeps s labels alg f (forms.nodes names) k = before_keeps alg f (after_nodes f.net names) k (nodes_keep f.net names)
form_keeps s labels alg f (forms.link a b text) k = before_keeps alg f (after_link s f.net a b text) k (link_keeps s f.net a b text)
form_keeps s labels alg f (forms.both a b text) k = before_keeps alg f (after_both s f.net a b text) k (both_keeps s f.net a b text)
form_keeps s labels alg f (forms.origin dest a text) k = before_keeps alg f (after_origin s f.net dest a text) k (origin_keeps s f.net dest a text)
form_keeps s labels alg f (forms.then_link a b text) k = then_link_keeps s labels alg f a b text k
form_keeps s labels alg f (forms.then_drop a b) k = then_drop_keeps alg f a b k
form_keeps s labels alg f forms.bad k = tt

line_keeps : (s : Spelling) → SpellLabels s → (alg : PureAlg) (f : PureNetFile) (line : List ℕ) → IsKept alg f → IfOk (after_line s f line) (IsKept alg)
line_keeps s labels alg f line k =
    if_keeps (IsKept alg) (leb (length line) MAX_LINE_BYTES) (after_form s f (forms.line_of (said_of line))) (Err BadLine) (λ _. form_keeps s labels alg f (forms.line_of (said_of line)) k) (λ _. tt)

lines_keep : (s : Spelling) → SpellLabels s → (alg : PureAlg) (f : PureNetFile) (lines : List (List ℕ)) (last : PureNetFile) → IsKept alg f → Lead s f lines last → IsKept alg last
lines_keep s labels alg f [] last k h = rw h k
lines_keep s labels alg f (line ∷ lines) last k h = lines_keep s labels alg h.0 lines last (subst (λ r. IfOk r (IsKept alg)) h.1 (line_keeps s labels alg f line k)) h.2

pub kept : AreLabels → (text : List ℕ) (alg : PureAlg) (f : PureNetFile) → NetText text alg f → IsKept alg f
kept good text alg f h =
    lines_keep h.0 (spell_labels good h.0 h.1) alg (empty_file alg) (lines_of text) f (record { alg_is = refl; few = omega arith; may = tt }) h.2
