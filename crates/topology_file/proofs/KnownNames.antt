-- What texts name stays so while a network grows.
use Rattle.std.proofs.Common.{◌≡◌, ◌<◌, ◌+◌, ℕ, zero, suc, Bool, true, false, not, cond, ltb, List, [], ◌∷◌, ◌++◌, length, replicate, set, slice_get, Option, Some, None, Result, Ok, Err, IfSome, refl, ap, ◌∙◌, arith}
use Rattle.std.proofs.lemmas.Bool.Decides.{nat_tests}
use Rattle.std.proofs.lemmas.List.{length_push}
use Rattle.std.specs.List.{AllByRecursion, prefix_len}
use Rattle.std.specs.Option.{ok_or}
use Rattle.std.specs.Str.{bytes_eq}
use Rattle.meta_base.specs.declared.ids.ArcId.{ArcId}
use Rattle.meta_base.specs.declared.ids.NodeId.{NodeId}
use Rattle.net_graph.specs.NetLaws.{all_weaker, number_within}
use Rattle.net_graph.specs.Nets.{PureNet, number_of}
use Rattle.topology_file.specs.declared.faults.NetKind.TheVariants.{UnknownNode}
use Rattle.topology_file.specs.declared.known.KnownTexts.{KnownTexts}
use Rattle.topology_file.specs.KnownTexts.{IsSpelledBy, Knows, HasSameArcs, KeepsNodes}
use Rattle.topology_file.specs.NetText.{node_in}
use Rattle.topology_file.specs.TextSpots.{IsBlank, IsNoted, IsNotedMore, AreNoted}

-- what is noted of texts is so of each that is found
noted_at : {T : Type 0} (Names : List ℕ → T → Type 0) (spots : List (Option (List ℕ × T))) (k : ℕ) (text : List ℕ) (named : T)
    → AreNoted Names spots → slice_get spots k ≡ Some (Some (text, named)) → Names text named
noted_at Names [] k text named all e = absurd (cc)
noted_at Names (spot ∷ spots) zero text named all e = let same : spot ≡ Some (text, named) = cc in rw same at all.0
noted_at Names (spot ∷ spots) (suc k) text named all e = noted_at Names spots k text named all.1 e

pub found_noted : {T : Type 0} (Names : List ℕ → T → Type 0) (spots : List (Option (List ℕ × T))) (text : List ℕ) (found : Option T) → AreNoted Names spots → IfSome found (IsNoted spots text) → IfSome found (Names text)
found_noted Names spots text None all h = tt
found_noted Names spots text (Some named) all h = noted_at Names spots h.0 text named all h.1

-- and of one that is noted more
noted_set : {T : Type 0} (Names : List ℕ → T → Type 0) (spots : List (Option (List ℕ × T))) (k : ℕ) (text : List ℕ) (named : T)
    → AreNoted Names spots → Names text named → AreNoted Names (set spots k (Some (text, named)))
noted_set Names [] k text named all n = tt
noted_set Names (spot ∷ spots) zero text named all n = (n, all.1)
noted_set Names (spot ∷ spots) (suc k) text named all n = (all.0, noted_set Names spots k text named all.1 n)

pub noted_more : {T : Type 0} (Names : List ℕ → T → Type 0) (old new : List (Option (List ℕ × T))) (text : List ℕ) (named : T)
    → AreNoted Names old → Names text named → IsNotedMore old text named new → AreNoted Names new
noted_more Names old new text named all n more = rw more.1 (noted_set Names old more.0 text named all n)

-- where nothing is noted nothing is wrong
none_noted : {T : Type 0} (Names : List ℕ → T → Type 0) (count : ℕ) → AreNoted Names (replicate count None)
none_noted Names zero = tt
none_noted Names (suc count) = (tt, none_noted Names count)

pub blank_noted : {T : Type 0} (Names : List ℕ → T → Type 0) (spots : List (Option (List ℕ × T))) → IsBlank spots → AreNoted Names spots
blank_noted Names spots b = rw b.1 (none_noted Names b.0)

noted_weaker : {T : Type 0} (P Q : List ℕ → T → Type 0) (spots : List (Option (List ℕ × T))) → ((text : List ℕ) (named : T) → P text named → Q text named) → AreNoted P spots → AreNoted Q spots
noted_weaker {T} P Q spots f all =
    all_weaker (λ (spot : Option (List ℕ × T)). IfSome spot (λ n. P n.0 n.1)) (λ (spot : Option (List ℕ × T)). IfSome spot (λ n. Q n.0 n.1)) spots one all
  where
    one : (spot : Option (List ℕ × T)) → IfSome spot (λ n. P n.0 n.1) → IfSome spot (λ n. Q n.0 n.1)
    one None h = tt
    one (Some n) h = f n.0 n.1 h

-- a node that was named stands in the network
pub node_within : (net : PureNet) (name : List ℕ) (node : ℕ) → node_in net name ≡ Ok node → node < length net.nodes
node_within net name node e = by (number_of net.nodes name) refl e
  where
    by : (o : Option ℕ) → number_of net.nodes name ≡ o → ok_or o UnknownNode ≡ Ok node → node < length net.nodes
    by None f g = absurd (cc)
    by (Some n) f g = let same : n ≡ node = cc in number_within net.nodes name node (f ∙ ap Some same)

-- a name more changes no number
len_push : {X : Type 0} (p : X → Bool) (xs : List X) (y : X) → prefix_len p xs < length xs → prefix_len p (xs ++ y ∷ []) ≡ prefix_len p xs
len_push p [] y h = absurd (omega (arith, h))
len_push {X} p (x ∷ xs) y h = by (p x) h (len_push p xs y)
  where
    by : (b : Bool) → cond b (1 + prefix_len p xs) 0 < length (x ∷ xs) → (prefix_len p xs < length xs → prefix_len p (xs ++ y ∷ []) ≡ prefix_len p xs)
        → cond b (1 + prefix_len p (xs ++ y ∷ [])) 0 ≡ cond b (1 + prefix_len p xs) 0
    by true k more = ap (λ n. 1 + n) (more (omega (arith, k)))
    by false k more = refl

pub nodes_more : (names : List (List ℕ)) (new name : List ℕ) (node : ℕ) → number_of names name ≡ Some node → number_of (names ++ new ∷ []) name ≡ Some node
nodes_more names new name node e = by (ltb at (length names)) refl e
  where
    at : ℕ
    at = prefix_len (λ n. not (bytes_eq name n)) names

    by : (b : Bool) → ltb at (length names) ≡ b → cond b (Some at) None ≡ Some node → number_of (names ++ new ∷ []) name ≡ Some node
    by true f g =
        let below : at < length names = grind (arith, nat_tests) in
        let count = length_push names new in
        let above : ltb at (length (names ++ new ∷ [])) ≡ true = grind (arith, nat_tests) in
        rw (len_push (λ n. not (bytes_eq name n)) names new below, above) g
    by false f g = absurd (cc)

-- what is known of a network is so of one that keeps it
pub knows_still : (old new : PureNet) (known : KnownTexts) → ((text : List ℕ) (arc : ℕ) → IsSpelledBy old text arc → IsSpelledBy new text arc) → KeepsNodes old new → Knows old known → Knows new known
knows_still old new known labels nodes k = record {
  arcs = all_weaker (λ t. IsSpelledBy old t.0.now t.1.0) (λ t. IsSpelledBy new t.0.now t.1.0) known.arcs.entries (λ t s. labels t.0.now t.1.0 s) k.arcs;
  labels = noted_weaker (λ text (arc : ArcId). IsSpelledBy old text arc.0) (λ text (arc : ArcId). IsSpelledBy new text arc.0) known.labels.spots.items (λ text arc s. labels text arc.0 s) k.labels;
  nodes = noted_weaker (λ text (node : NodeId). node_in old text ≡ Ok node.0) (λ text (node : NodeId). node_in new text ≡ Ok node.0) known.nodes.spots.items (λ text node e. named text node.0 e) k.nodes;
}
  where
    named : (text : List ℕ) (node : ℕ) → node_in old text ≡ Ok node → node_in new text ≡ Ok node
    named text node e = by (number_of old.nodes text) refl e
      where
        by : (o : Option ℕ) → number_of old.nodes text ≡ o → ok_or o UnknownNode ≡ Ok node → node_in new text ≡ Ok node
        by None f g = absurd (cc)
        by (Some n) f g = rw (nodes text n f) g

-- what is no arc changes no label
pub knows_same : (old new : PureNet) (known : KnownTexts) → HasSameArcs old new → KeepsNodes old new → Knows old known → Knows new known
knows_same old new known arcs nodes k = knows_still old new known (λ text arc s. (s.0, rw arcs.1 s.1, rw arcs.0 s.2)) nodes k
