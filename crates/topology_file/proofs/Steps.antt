-- What a line makes of what was there, step by step.
use Rattle.std.proofs.Common.{◌≡◌, ℕ, ◌+◌, ◌-◌, ◌<◌, List, [], ◌∷◌, ◌++◌, Bool, true, false, ◌||◌, cond, ltb, length, map, Ok, Err, refl, sym, ap, ◌∙◌, arith}
use Rattle.std.proofs.lemmas.List.{map-append}
use Rattle.std.proofs.lemmas.Bool.Decides.{nat_tests}
use Rattle.std.specs.List.{list_all}
use Rattle.alg_model.specs.Expressions.{PureLabel}
use Rattle.alg_model.specs.Application.{IsLabel}
use Rattle.alg_model.specs.Bounds.{LabelAtMost, greatest_number}
use Rattle.net_graph.specs.declared.limits.TheConstants.{MAX_ARCS}
use Rattle.net_graph.specs.declared.change.Change.{Change}
use Rattle.net_graph.specs.Nets.{PureNet, IsNet, has_arc, has_origin, is_name}
use Rattle.net_graph.specs.NetLaws.{none_past}
use Rattle.net_graph.specs.Lines.{with_dest}
use Rattle.net_graph.specs.Changes.{PureChange, link, drop, changed, MayChange}
use Rattle.net_graph.specs.ChangeSteps.{is_there_after_all}
use Rattle.net_graph.specs.Laws.{after_all_is_net, after_all_has_arc, linked_count, added_count, dropped_count, after_all_more, are_changes_more, after_all_keeps}
use Rattle.net_graph.specs.Views.{pure_change}
use Rattle.sig_text.specs.Spelled.{spelled}
use Rattle.topology_file.specs.declared.faults.NetKind.TheVariants.{AfterThen, BadLine, TooMany}
use Rattle.topology_file.specs.declared.faults.What.TheVariants.{Arcs}
use Rattle.topology_file.specs.declared.errors.LineError.{LineError}
use Rattle.topology_file.specs.declared.errors.LineError.TheVariants.{Bad, NoMemory}
use Rattle.topology_file.specs.declared.forms.ArcLine.{ArcLine}
use Rattle.topology_file.specs.declared.forms.Ways.{Ways}
use Rattle.topology_file.specs.declared.forms.Ways.TheVariants.{One, Both}
use Rattle.topology_file.specs.declared.forms.NetLine.{NetLine}
use Rattle.topology_file.specs.declared.forms.NetLine.TheVariants as lines
use Rattle.topology_file.specs.Texts.{words_of}
use Rattle.topology_file.specs.Forms.{nodes, bad}
use Rattle.topology_file.specs.NetText.{PureNetFile, changed_net, and_then, ends_in, label_in, has_room_to_link, with_change, with_net, after_nodes, after_then_link, after_then_drop, after_form}
use Rattle.topology_file.specs.LineErrors.{IsRefusedAs, AreEnds, after_arcs, after_arc_line, after_net_line, late_fault}
use Rattle.topology_file.specs.Views.{IsDraft, file_with, arc_form, pure_arc_line, pure_net_line}

-- a destination that was just added has no origin
pub new_dest_has_none : (net : PureNet) (name : List ℕ) (dest node : ℕ) → IsNet net → dest ≡ length net.dests → has_origin (with_dest net name) dest node ≡ false
new_dest_has_none net name dest node n e = rw e (none_past net.alg (length net.nodes) (length net.dests) node net.origins n.origins_in)

-- what the changes say of an arc
pub draft_has_arc : (net : PureNet) (changes : List Change) (tail head : ℕ)
    → is_there_after_all tail head (map pure_change changes) (has_arc net tail head) ≡ has_arc (changed_net (file_with net changes)) tail head
draft_has_arc net changes tail head = sym (after_all_has_arc net (map pure_change changes) tail head)

pub draft_is_net : (net : PureNet) (changes : List Change) (count : ℕ) → IsNet net → IsDraft (file_with net changes) count → IsNet (changed_net (file_with net changes))
draft_is_net net changes count n d = after_all_is_net net (map pure_change changes) n d.may

-- one change more
pub draft_more : (net : PureNet) (changes : List Change) (c : Change) (count more : ℕ) → IsDraft (file_with net changes) count
    → MayChange (changed_net (file_with net changes)) (pure_change c) → more ≡ length (changed (changed_net (file_with net changes)) (pure_change c)).arcs
    → IsDraft (file_with net (changes ++ c ∷ [])) more
draft_more net changes c count more d may e =
    let cs = map pure_change changes in
    rw (map-append pure_change changes (c ∷ []))
    (record { may = are_changes_more net cs (pure_change c) d.may may; count = e ∙ ap (λ (n : PureNet). length n.arcs) (sym (after_all_more net cs (pure_change c))) })

-- how many arcs there are with a label more
pub linked : (f : PureNetFile) (count tail head : ℕ) (l : PureLabel) → IsDraft f count → has_arc (changed_net f) tail head ≡ true → count ≡ length (changed (changed_net f) (link tail head l)).arcs
linked f count tail head l d e = d.count ∙ sym (linked_count (changed_net f) tail head l e)

pub added : (f : PureNetFile) (count tail head : ℕ) (l : PureLabel) → IsDraft f count → has_arc (changed_net f) tail head ≡ false → count + 1 ≡ length (changed (changed_net f) (link tail head l)).arcs
added f count tail head l d e = ap (λ n. n + 1) d.count ∙ sym (added_count (changed_net f) tail head l e)

-- and with one less
pub dropped : (f : PureNetFile) (count tail head : ℕ) → IsDraft f count → IsNet (changed_net f) → has_arc (changed_net f) tail head ≡ true
    → (0 < count) × (count - 1 ≡ length (changed (changed_net f) (drop tail head)).arcs)
dropped f count tail head d n e =
    let less = dropped_count (changed_net f) tail head n e in
    let same = d.count in
    (omega arith, omega arith)

-- `then link`
pub link_refused : (f : PureNetFile) (a b text : List ℕ) (tail head : ℕ) (e : LineError) → ends_in f.net a b ≡ Ok (tail, head) → IsRefusedAs (label_in spelled f.net.alg text) e → IsRefusedAs (after_then_link spelled f a b text) e
link_refused f a b text tail head (Bad kind) n h = rw (n, h) refl
link_refused f a b text tail head NoMemory n h = tt

pub link_full : (f : PureNetFile) (a b text : List ℕ) (tail head : ℕ) (l : PureLabel) → ends_in f.net a b ≡ Ok (tail, head) → label_in spelled f.net.alg text ≡ Ok l → has_room_to_link f tail head ≡ false
    → after_then_link spelled f a b text ≡ Err (TooMany Arcs)
link_full f a b text tail head l n h r = rw (n, h, r) refl

pub link_made : (f : PureNetFile) (a b text : List ℕ) (tail head : ℕ) (l : PureLabel) → ends_in f.net a b ≡ Ok (tail, head) → label_in spelled f.net.alg text ≡ Ok l → has_room_to_link f tail head ≡ true
    → after_then_link spelled f a b text ≡ with_change f (link tail head l)
link_made f a b text tail head l n h r = rw (n, h, r) refl

pub may_link : (f : PureNetFile) (tail head : ℕ) (l : PureLabel) → AreEnds f.net tail head → IsLabel f.net.alg.expression l → LabelAtMost (greatest_number f.net.alg.edition) l → has_room_to_link f tail head ≡ true
    → MayChange (changed_net f) (link tail head l)
may_link f tail head l ends label bound room =
    let nodes : (changed_net f).nodes ≡ f.net.nodes = ap (λ (n : PureNet). n.nodes) (after_all_keeps f.net f.changes) in
    let alg : (changed_net f).alg ≡ f.net.alg = ap (λ (n : PureNet). n.alg) (after_all_keeps f.net f.changes) in
    record {
      tail_in = rw nodes ends.tail_in;
      head_in = rw nodes ends.head_in;
      apart = ends.apart;
      label_in = rw alg label;
      bound = rw alg bound;
      room = λ absent. by (has_arc (changed_net f) tail head) absent room;
    }
  where
    by : (b : Bool) → b ≡ false → (b || ltb (length (changed_net f).arcs) MAX_ARCS) ≡ true → length (changed_net f).arcs < MAX_ARCS
    by true e r = absurd (cc)
    by false e r = grind (arith, nat_tests)

-- `then drop`
pub drop_made : (f : PureNetFile) (a b : List ℕ) (tail head : ℕ) → ends_in f.net a b ≡ Ok (tail, head) → has_arc (changed_net f) tail head ≡ true → after_then_drop f a b ≡ with_change f (drop tail head)
drop_made f a b tail head n h = rw (n, h) refl

-- a line of the network after a change
pub late : (f : PureNetFile) (c : PureChange) (cs : List PureChange) (line : NetLine) → f.changes ≡ c ∷ cs → after_form spelled f (pure_net_line line) ≡ Err (late_fault line)
late f c cs (lines.Nodes names) e = by (list_all is_name (words_of names.now))
  where
    by : (b : Bool) → after_form spelled f (cond b (nodes (words_of names.now)) bad) ≡ Err (cond b AfterThen BadLine)
    by true = rw e refl
    by false = refl
late f c cs (lines.Arc line) e = by line.ways
  where
    by : (ways : Ways) → after_form spelled f (arc_form ways line.listener line.speaker line.label) ≡ Err AfterThen
    by One = rw e refl
    by Both = rw e refl
late f c cs (lines.Origin dest node value) e = rw e refl

-- and before all of them
pub early : (f : PureNetFile) (line : NetLine) → f.changes ≡ [] → after_form spelled f (pure_net_line line) ≡ and_then (after_net_line f.net line) (with_net f)
early f (lines.Nodes names) e = by (list_all is_name (words_of names.now))
  where
    by : (b : Bool) → after_form spelled f (cond b (nodes (words_of names.now)) bad) ≡ and_then (cond b (after_nodes f.net (words_of names.now)) (Err BadLine)) (with_net f)
    by true = rw e refl
    by false = refl
early f (lines.Arc line) e = by line.ways
  where
    by : (ways : Ways) → after_form spelled f (arc_form ways line.listener line.speaker line.label)
        ≡ and_then (after_arcs f.net ways line.listener line.speaker line.label) (with_net f)
    by One = rw e refl
    by Both = rw e refl
early f (lines.Origin dest node value) e = rw e refl

pub early_ok : (f : PureNetFile) (line : NetLine) (net : PureNet) → f.changes ≡ [] → after_net_line f.net line ≡ Ok net → after_form spelled f (pure_net_line line) ≡ Ok (record f { net = net })
early_ok f line net e made = early f line e ∙ rw made refl

pub early_bad : (f : PureNetFile) (line : NetLine) (e : LineError) → f.changes ≡ [] → IsRefusedAs (after_net_line f.net line) e → IsRefusedAs (after_form spelled f (pure_net_line line)) e
early_bad f line (Bad kind) none made = early f line none ∙ rw made refl
early_bad f line NoMemory none made = tt

-- and the same of the line of an arc
pub late_arc : (f : PureNetFile) (c : PureChange) (cs : List PureChange) (line : ArcLine) → f.changes ≡ c ∷ cs → after_form spelled f (pure_arc_line line) ≡ Err AfterThen
late_arc f c cs line e = late f c cs (lines.Arc line) e

pub early_arc_ok : (f : PureNetFile) (line : ArcLine) (net : PureNet) → f.changes ≡ [] → after_arc_line f.net line ≡ Ok net → after_form spelled f (pure_arc_line line) ≡ Ok (record f { net = net })
early_arc_ok f line net e made = early_ok f (lines.Arc line) net e made

pub early_arc_bad : (f : PureNetFile) (line : ArcLine) (e : LineError) → f.changes ≡ [] → IsRefusedAs (after_arc_line f.net line) e → IsRefusedAs (after_form spelled f (pure_arc_line line)) e
early_arc_bad f line e none made = early_bad f (lines.Arc line) e none made
