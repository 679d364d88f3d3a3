-- Which network a text means over an algebra, with which changes, and which fault refuses it.
use Rattle.std.specs.Prelude.{◌≡◌, ◌⊎◌, ℕ, ◌+◌, List, [], ◌∷◌, ◌++◌, Bool, true, false, ◌==◌, ◌||◌, nat_lt, nat_le, if◌then◌else◌, is_some, ok_or, Option, Some, None, Result, Ok, Err, length}
use Rattle.alg_model.specs.Expressions.{PureAlg, PureLabel, PureValue}
use Rattle.net_graph.specs.Limits.{max_arcs, max_nodes, max_dests, max_changes}
use Rattle.net_graph.specs.Nets.{PureNet, number_of, has_arc, has_origin}
use Rattle.net_graph.specs.Lines.{empty_net, with_node, with_arc, with_origin}
use Rattle.net_graph.specs.Changes.{PureChange, after_all}
use Rattle.net_graph.specs.Changes as changes
use Rattle.sig_text.specs.declared.faults.LitFault.{LitFault}
use Rattle.sig_text.specs.Literals.{Spelling, IsSpelling}
use Rattle.topology_file.specs.declared.faults.What.{What}
use Rattle.topology_file.specs.declared.faults.What.TheVariants.{Nodes, Arcs, Dests, Changes}
use Rattle.topology_file.specs.declared.faults.NetKind.{NetKind}
use Rattle.topology_file.specs.declared.faults.NetKind.TheVariants.{BadLine, UnknownNode, NodeTwice, ArcTwice, SelfArc, BadLabel, BadValue, OriginTwice, TooMany, AfterThen, NoArc}
use Rattle.topology_file.specs.declared.faults.NetFault.{NetFault}
use Rattle.topology_file.specs.declared.faults.NetError.{NetError}
use Rattle.topology_file.specs.declared.faults.NetError.TheVariants.{Bad, NoMemory}
use Rattle.topology_file.specs.Numbers.{max_line_bytes}
use Rattle.topology_file.specs.Texts.{lines_of, said_of}
use Rattle.topology_file.specs.Forms.{PureLine, silent, nodes, link, both, origin, then_link, then_drop, bad, line_of}

-- what lines give: the network of those without `then`, and the changes of the others
pub record PureNetFile : Type 0 where
  pub net : PureNet
  pub changes : List PureChange

abbrev pub empty_file : PureAlg → PureNetFile
empty_file alg = record { net = empty_net alg; changes = [] }

-- the network after all changes so far
abbrev pub changed_net : PureNetFile → PureNet
changed_net f = after_all f.net f.changes

-- What a line makes of what the lines before it gave, or the first rule that it breaks.

-- what comes of the first, if it breaks no rule
abbrev pub and_then : {A B : Type 0} → Result A NetKind → (A → Result B NetKind) → Result B NetKind
and_then (Ok a) next = next a
and_then (Err kind) next = Err kind

-- this, if there is room for it
abbrev pub if_room : {A : Type 0} → Bool → What → A → Result A NetKind
if_room room what a = if room then Ok a else Err (TooMany what)

-- the node of a name; the nodes of two names, which differ
abbrev pub node_in : PureNet → List ℕ → Result ℕ NetKind
node_in net name = ok_or (number_of net.nodes name) UnknownNode

abbrev pub apart : ℕ → ℕ → Result (ℕ × ℕ) NetKind
apart tail head = if tail == head then Err SelfArc else Ok (tail, head)

abbrev pub ends_in : PureNet → List ℕ → List ℕ → Result (ℕ × ℕ) NetKind
ends_in net a b = and_then (node_in net a) (λ tail. and_then (node_in net b) (apart tail))

-- the label, and the value, that a text spells
abbrev pub as_label : Result PureLabel LitFault → Result PureLabel NetKind
as_label (Ok l) = Ok l
as_label (Err fault) = Err (BadLabel fault)

abbrev pub label_in : Spelling → PureAlg → List ℕ → Result PureLabel NetKind
label_in s alg text = as_label (s.label alg text)

abbrev pub as_value : Result PureValue LitFault → Result PureValue NetKind
as_value (Ok v) = Ok v
as_value (Err fault) = Err (BadValue fault)

abbrev pub value_in : Spelling → PureAlg → List ℕ → Result PureValue NetKind
value_in s alg text = as_value (s.value alg text)

-- `node A ..`: a name is there already, or stands in the list twice
abbrev pub names_twice : List (List ℕ) → List (List ℕ) → Bool
names_twice there [] = false
names_twice there (name ∷ names) = is_some (number_of there name) || names_twice (there ++ name ∷ []) names

abbrev pub with_nodes : PureNet → List (List ℕ) → PureNet
with_nodes net [] = net
with_nodes net (name ∷ names) = with_nodes (with_node net name) names

abbrev pub after_nodes : PureNet → List (List ℕ) → Result PureNet NetKind
after_nodes net names =
    if names_twice net.nodes names then Err NodeTwice
    else if_room (nat_le (length net.nodes + length names) (max_nodes net.alg.edition)) Nodes (with_nodes net names)

-- `link A B : LABEL`
abbrev pub one_arc : PureNet → ℕ → ℕ → PureLabel → Result PureNet NetKind
one_arc net tail head l = if_room (nat_le (length net.arcs + 1) max_arcs) Arcs (with_arc net tail head l)

abbrev pub link_between : Spelling → PureNet → List ℕ → ℕ → ℕ → Result PureNet NetKind
link_between s net text tail head =
    if has_arc net tail head then Err ArcTwice
    else and_then (label_in s net.alg text) (one_arc net tail head)

abbrev pub after_link : Spelling → PureNet → List ℕ → List ℕ → List ℕ → Result PureNet NetKind
after_link s net a b text = and_then (ends_in net a b) (λ ends. link_between s net text ends.0 ends.1)

-- `both A B : LABEL`
abbrev pub two_arcs : PureNet → ℕ → ℕ → PureLabel → Result PureNet NetKind
two_arcs net tail head l =
    if_room (nat_le (length net.arcs + 2) max_arcs) Arcs (with_arc (with_arc net tail head l) head tail l)

abbrev pub both_between : Spelling → PureNet → List ℕ → ℕ → ℕ → Result PureNet NetKind
both_between s net text tail head =
    if has_arc net tail head || has_arc net head tail then Err ArcTwice
    else and_then (label_in s net.alg text) (two_arcs net tail head)

abbrev pub after_both : Spelling → PureNet → List ℕ → List ℕ → List ℕ → Result PureNet NetKind
after_both s net a b text = and_then (ends_in net a b) (λ ends. both_between s net text ends.0 ends.1)

-- `origin D at A : VALUE`: the destination, if it is there, has an origin at the node
abbrev pub has_origin_of : PureNet → Option ℕ → ℕ → Bool
has_origin_of net None node = false
has_origin_of net (Some dest) node = has_origin net dest node

-- the destination is there, or there is room for it
abbrev pub has_room_for : PureNet → Option ℕ → Bool
has_room_for net None = nat_lt (length net.dests) (max_dests net.alg.edition)
has_room_for net (Some dest) = true

abbrev pub one_origin : PureNet → List ℕ → ℕ → PureValue → Result PureNet NetKind
one_origin net dest node v = if_room (has_room_for net (number_of net.dests dest)) Dests (with_origin net dest node v)

abbrev pub origin_at : Spelling → PureNet → List ℕ → List ℕ → ℕ → Result PureNet NetKind
origin_at s net dest text node =
    if has_origin_of net (number_of net.dests dest) node then Err OriginTwice
    else and_then (value_in s net.alg text) (one_origin net dest node)

abbrev pub after_origin : Spelling → PureNet → List ℕ → List ℕ → List ℕ → Result PureNet NetKind
after_origin s net dest a text = and_then (node_in net a) (origin_at s net dest text)

-- one change more
abbrev pub with_change : PureNetFile → PureChange → Result PureNetFile NetKind
with_change f c =
    if_room (nat_lt (length f.changes) (max_changes f.net.alg.edition)) Changes (record f { changes = f.changes ++ c ∷ [] })

-- `then link A B : LABEL`: after the changes before it the arc is there, or there is room for it
abbrev pub has_room_to_link : PureNetFile → ℕ → ℕ → Bool
has_room_to_link f tail head = has_arc (changed_net f) tail head || nat_lt (length (changed_net f).arcs) max_arcs

abbrev pub one_link : PureNetFile → ℕ → ℕ → PureLabel → Result PureNetFile NetKind
one_link f tail head l = if has_room_to_link f tail head then with_change f (changes.link tail head l) else Err (TooMany Arcs)

abbrev pub after_then_link : Spelling → PureNetFile → List ℕ → List ℕ → List ℕ → Result PureNetFile NetKind
after_then_link s f a b text = and_then (ends_in f.net a b) (λ ends. and_then (label_in s f.net.alg text) (one_link f ends.0 ends.1))

-- `then drop A B`
abbrev pub one_drop : PureNetFile → ℕ → ℕ → Result PureNetFile NetKind
one_drop f tail head = if has_arc (changed_net f) tail head then with_change f (changes.drop tail head) else Err NoArc

abbrev pub after_then_drop : PureNetFile → List ℕ → List ℕ → Result PureNetFile NetKind
after_then_drop f a b = and_then (ends_in f.net a b) (λ ends. one_drop f ends.0 ends.1)

-- a line of the network stands before all changes
abbrev pub has_changes : List PureChange → Bool
has_changes [] = false
has_changes (c ∷ cs) = true

abbrev pub with_net : PureNetFile → PureNet → Result PureNetFile NetKind
with_net f net = Ok (record f { net = net })

abbrev pub before_changes : PureNetFile → Result PureNet NetKind → Result PureNetFile NetKind
before_changes f made = if has_changes f.changes then Err AfterThen else and_then made (with_net f)

abbrev pub after_form : Spelling → PureNetFile → PureLine → Result PureNetFile NetKind
after_form s f silent = Ok f
after_form s f (nodes names) = before_changes f (after_nodes f.net names)
after_form s f (link a b text) = before_changes f (after_link s f.net a b text)
after_form s f (both a b text) = before_changes f (after_both s f.net a b text)
after_form s f (origin dest a text) = before_changes f (after_origin s f.net dest a text)
after_form s f (then_link a b text) = after_then_link s f a b text
after_form s f (then_drop a b) = after_then_drop f a b
after_form s f bad = Err BadLine

abbrev pub after_line : Spelling → PureNetFile → List ℕ → Result PureNetFile NetKind
after_line s f line = if nat_le (length line) max_line_bytes then after_form s f (line_of (said_of line)) else Err BadLine

-- What a text means.

-- the lines in turn make the last of the first
abbrev pub Lead : Spelling → PureNetFile → List (List ℕ) → PureNetFile → Type 0
Lead s f [] last = last ≡ f
Lead s f (line ∷ lines) last = (next : PureNetFile) × (after_line s f line ≡ Ok next) × Lead s next lines last

-- the text means the network over the algebra, with these changes, where its literals are what they spell
abbrev pub NetText : List ℕ → PureAlg → PureNetFile → Type 0
NetText text alg f = (s : Spelling) × IsSpelling s × Lead s (empty_file alg) (lines_of text) f

-- the line of that number breaks a rule, which is of that kind, and no line before it breaks one
pub record IsNetFault (text : List ℕ) (alg : PureAlg) (fault : NetFault) : Type 0 where
  pub before : List (List ℕ)
  pub line : List ℕ
  pub others : List (List ℕ)
  pub cut : lines_of text ≡ before ++ line ∷ others
  pub number : fault.line ≡ length before + 1
  pub spelling : Spelling
  pub is_spelling : IsSpelling spelling
  pub file : PureNetFile
  pub good : Lead spelling (empty_file alg) before file
  pub broken : after_line spelling file line ≡ Err fault.kind

-- the error's cause
abbrev pub IsRefusedBy : List ℕ → PureAlg → NetError → Type 0
IsRefusedBy text alg (Bad f) = IsNetFault text alg f
IsRefusedBy text alg NoMemory = Unit {0}

-- a text means one network with its changes over an algebra or has a fault there, not both, and only one
-- of its kind
pub record HasOneOutcome (text : List ℕ) (alg : PureAlg) : Type 0 where
  pub outcome : ((f : PureNetFile) × NetText text alg f) ⊎ ((f : NetFault) × IsNetFault text alg f)
  pub one_network : (f g : PureNetFile) → NetText text alg f → NetText text alg g → f ≡ g
  pub one_fault : (f g : NetFault) → IsNetFault text alg f → IsNetFault text alg g → f ≡ g
  pub not_both : (f : PureNetFile) (fault : NetFault) → NetText text alg f → IsNetFault text alg fault → ⊥
