-- Texts, and the arcs whose labels they spell.
use Rattle.std.proofs.Common.{◌≡◌, ◌≢◌, ◌<◌, ◌≤◌, ◌+◌, ℕ, zero, suc, List, [], ◌∷◌, ◌++◌, Bool, true, false, ◌&&◌, eqb, cond, bytes_eq, Option, Some, Result, Ok, Err, slice_get, length, IfSome, Bor, refl, subst, arith}
use Rattle.std.proofs.lemmas.Bool.Decides.{nat_tests}
use Rattle.std.proofs.lemmas.List.{length_push}
use Rattle.std.proofs.lemmas.List.Folds.{list_any-append}
use Rattle.std.proofs.lemmas.Option.{slice_get_within}
use Rattle.std.proofs.lemmas.Slice.Eq.{bytes_eq-Decides}
use Rattle.std.specs.Map.{lookup as entry_of}
use Rattle.indexmap.specs.IndexMap.{insert_entry}
use Rattle.meta_base.specs.declared.ids.ArcId.{ArcId}
use Rattle.net_graph.specs.Lines.{with_arc}
use Rattle.net_graph.specs.Limits.{max_arcs}
use Rattle.net_graph.specs.Nets.{PureArc, PureNet, has_arc, is_arc_between}
use Rattle.net_graph.specs.declared.limits.TheConstants.{MAX_ARCS}
use Rattle.alg_model.specs.Expressions.{PureLabel}
use Rattle.sig_text.specs.Spelled.{spelled}
use Rattle.topology_file.specs.KnownTexts.{IsSpelledBy, AreSpelled, IsLinked, Knows, has_room_for_arcs}
use Rattle.topology_file.specs.declared.known.KnownTexts.{KnownTexts}
use Rattle.topology_file.proofs.KnownNames.{knows_still}
use Rattle.topology_file.specs.LineErrors.{IsRefusedAs}
use Rattle.topology_file.specs.NetText.{and_then, if_room, ends_in, label_in, after_link, after_both}
use Rattle.topology_file.specs.declared.errors.LineError.{LineError}
use Rattle.topology_file.specs.declared.errors.LineError.TheVariants.{Bad, NoMemory}
use Rattle.topology_file.specs.declared.faults.NetKind.{NetKind}
use Rattle.topology_file.specs.declared.faults.NetKind.TheVariants.{TooMany}
use Rattle.topology_file.specs.declared.faults.What.TheVariants.{Arcs}

abbrev Entry : Type 0
Entry = Bor (List ℕ) × ArcId

-- whether the key is this text
abbrev pub has_text : List ℕ → Bor (List ℕ) → Bool
has_text w v = bytes_eq w v.now

-- the arc that is found has the label that the text spells
pub found_text : (net : PureNet) (es : List Entry) (w : List ℕ) (o : Option ArcId) → AreSpelled net es → o ≡ entry_of (has_text w) es → IfSome o (λ arc. IsSpelledBy net w arc.0)
found_text net [] w o all e = rw e tt
found_text net (t ∷ es) w o all e = by (found_text net es w o all.1) (bytes_eq w t.0.now) refl e
  where
    by : (o ≡ entry_of (has_text w) es → IfSome o (λ arc. IsSpelledBy net w arc.0))
        → (b : Bool) → bytes_eq w t.0.now ≡ b → o ≡ cond b (Some t.1) (entry_of (has_text w) es) → IfSome o (λ arc. IsSpelledBy net w arc.0)
    by later true p f =
        let same : w ≡ t.0.now = (bytes_eq-Decides w t.0.now).0 p in
        rw (f, same) all.0
    by later false p f = later f

-- a text more
pub noted : (net : PureNet) (es : List Entry) (key : Bor (List ℕ)) (arc : ArcId) → AreSpelled net es → IsSpelledBy net key.now arc.0 → AreSpelled net (insert_entry (λ u. has_text u.now) es key arc)
noted net [] key arc all s = (s, tt)
noted net (t ∷ es) key arc all s = by (noted net es key arc all.1 s) (bytes_eq key.now t.0.now) refl
  where
    by : AreSpelled net (insert_entry (λ u. has_text u.now) es key arc)
        → (b : Bool) → bytes_eq key.now t.0.now ≡ b → AreSpelled net (cond b ((t.0, arc) ∷ es) (t ∷ insert_entry (λ u. has_text u.now) es key arc))
    by later true p = (subst (λ w. IsSpelledBy net w arc.0) ((bytes_eq-Decides key.now t.0.now).0 p) s, all.1)
    by later false p = (all.0, later)

-- what stood in a list stands there still after which another is put, and this one comes last
stands_still : {X : Type 0} (xs : List X) (y : X) (k : ℕ) (x : X) → slice_get xs k ≡ Some x → slice_get (xs ++ y ∷ []) k ≡ Some x
stands_still [] y k x e = absurd (cc)
stands_still (z ∷ xs) y zero x e = e
stands_still (z ∷ xs) y (suc k) x e = stands_still xs y k x e

stands_last : {X : Type 0} (xs : List X) (y : X) → slice_get (xs ++ y ∷ []) (length xs) ≡ Some y
stands_last [] y = refl
stands_last (x ∷ xs) y = stands_last xs y

-- an arc more changes no label
pub knows_more : (net : PureNet) (tail head : ℕ) (l : PureLabel) (known : KnownTexts) → Knows net known → Knows (with_arc net tail head l) known
knows_more net tail head l known k =
    knows_still net (with_arc net tail head l) known (λ text arc s. (s.0, stands_still net.arcs _ arc s.0 s.1, s.2)) (λ name node e. e) k

-- an arc that is added with the label that a text spells
pub knows_linked : (old new : PureNet) (text : List ℕ) (tail head count : ℕ) (known : KnownTexts) → IsLinked old text tail head count new → Knows old known → Knows new known
knows_linked old new text tail head count known s k = rw (s.3) (knows_more old tail head s.0 known k)

pub last_spelled : (old new : PureNet) (text : List ℕ) (tail head count : ℕ) → IsLinked old text tail head count new → IsSpelledBy new text (length old.arcs)
last_spelled old new text tail head count s =
    let a : PureArc = record { id = length old.arcs; tail = tail; head = head; label = s.0 } in
    rw (s.3) (a, stands_last old.arcs a, s.1)

-- and so where it has the label of an arc that the text spells
pub linked_like : (old new : PureNet) (text : List ℕ) (tail head count like : ℕ) → IsSpelledBy old text like → has_room_for_arcs old count ≡ true
    → IfSome (slice_get old.arcs like) (λ arc. new ≡ with_arc old tail head arc.label) → IsLinked old text tail head count new
linked_like old new text tail head count like s room made = (s.0.label, s.2, room, rw (s.1) at made)

-- an arc more with the label of an arc that the text spells changes no label
pub knows_like : (old new : PureNet) (text : List ℕ) (tail head like : ℕ) (known : KnownTexts) → IsSpelledBy old text like → IfSome (slice_get old.arcs like) (λ arc. new ≡ with_arc old tail head arc.label) → Knows old known → Knows new known
knows_like old new text tail head like known s made k =
    let is : new ≡ with_arc old tail head s.0.label = rw (s.1) at made in
    rw is (knows_more old tail head s.0.label known k)

pub like_within : (net : PureNet) (text : List ℕ) (like : ℕ) → IsSpelledBy net text like → like < length net.arcs
like_within net text like s = slice_get_within net.arcs like s.0 s.1

-- what refuses an arc: the text, or that there is no room
pub label_refused : {A : Type 0} (net : PureNet) (text : List ℕ) (made : PureLabel → Result A NetKind) (e : LineError) → IsRefusedAs (label_in spelled net.alg text) e → IsRefusedAs (and_then (label_in spelled net.alg text) made) e
label_refused net text made (Bad kind) r = rw r refl
label_refused net text made NoMemory r = tt

pub room_refused : (net : PureNet) (text : List ℕ) (count : ℕ) (made : PureLabel → PureNet) (l : PureLabel) → label_in spelled net.alg text ≡ Ok l → has_room_for_arcs net count ≡ false
    → and_then (label_in spelled net.alg text) (λ l. if_room (has_room_for_arcs net count) Arcs (made l)) ≡ Err (TooMany Arcs)
room_refused net text count made l spells full = rw (spells, full) refl

-- what a line makes of it that links two nodes, one way or both
pub link_made : (net : PureNet) (a b text : List ℕ) (tail head : ℕ) (new : PureNet) → ends_in net a b ≡ Ok (tail, head) → has_arc net tail head ≡ false → IsLinked net text tail head 1 new → after_link spelled net a b text ≡ Ok new
link_made net a b text tail head new n absent s = rw (n, absent, s.1, s.2, s.3) refl

pub link_refused : (net : PureNet) (a b text : List ℕ) (tail head : ℕ) (e : LineError) → ends_in net a b ≡ Ok (tail, head) → has_arc net tail head ≡ false
    → IsRefusedAs (and_then (label_in spelled net.alg text) (λ l. if_room (has_room_for_arcs net 1) Arcs (with_arc net tail head l))) e → IsRefusedAs (after_link spelled net a b text) e
link_refused net a b text tail head e n absent r = rw (n, absent) r

-- after the first of two arcs there is room for the one back, which isn't there
pub back_absent : (net mid : PureNet) (text : List ℕ) (tail head : ℕ) → IsLinked net text tail head 2 mid → tail ≢ head → has_arc net head tail ≡ false → has_arc mid head tail ≡ false
back_absent net mid text tail head s apart absent =
    let a : PureArc = record { id = length net.arcs; tail = tail; head = head; label = s.0 } in
    let other : (eqb tail head && eqb head tail) ≡ false = grind (arith, nat_tests) in
    rw (s.3, list_any-append (is_arc_between head tail) net.arcs (a ∷ []), absent, other) refl

pub back_room : (net mid : PureNet) (text : List ℕ) (tail head : ℕ) → IsLinked net text tail head 2 mid → length mid.arcs < MAX_ARCS
back_room net mid text tail head s =
    let room : length net.arcs + 2 ≤ max_arcs = grind (arith, nat_tests, s.2) in
    rw (s.3, length_push net.arcs (record { id = length net.arcs; tail = tail; head = head; label = s.0 })) (omega (arith, room))

pub first_there : (net mid : PureNet) (text : List ℕ) (tail head count : ℕ) → IsLinked net text tail head count mid → length net.arcs < length mid.arcs
first_there net mid text tail head count s =
    rw (s.3, length_push net.arcs (record { id = length net.arcs; tail = tail; head = head; label = s.0 })) (omega arith)

pub both_made : (net : PureNet) (a b text : List ℕ) (tail head : ℕ) (mid new : PureNet) → ends_in net a b ≡ Ok (tail, head) → has_arc net tail head ≡ false → has_arc net head tail ≡ false → IsLinked net text tail head 2 mid
    → IfSome (slice_get mid.arcs (length net.arcs)) (λ arc. new ≡ with_arc mid head tail arc.label) → after_both spelled net a b text ≡ Ok new
both_made net a b text tail head mid new n absent back s made =
    let first : PureArc = record { id = length net.arcs; tail = tail; head = head; label = s.0 } in
    let at_last = rw (s.3, stands_last net.arcs first) at made in
    rw (n, absent, back, s.1, s.2, at_last) refl

pub both_refused : (net : PureNet) (a b text : List ℕ) (tail head : ℕ) (e : LineError) → ends_in net a b ≡ Ok (tail, head) → has_arc net tail head ≡ false → has_arc net head tail ≡ false
    → IsRefusedAs (and_then (label_in spelled net.alg text) (λ l. if_room (has_room_for_arcs net 2) Arcs (with_arc (with_arc net tail head l) head tail l))) e → IsRefusedAs (after_both spelled net a b text) e
both_refused net a b text tail head e n absent back r = rw (n, absent, back) r
