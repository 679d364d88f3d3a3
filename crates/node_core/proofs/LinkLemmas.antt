-- Messages on links.
use Rattle.std.proofs.Common.{◌≡◌, ℕ, zero, suc, ◌+◌, ◌<◌, ◌≤◌, List, [], ◌∷◌, ◌++◌, Bool, true, false, length, map, cond, refl, sym, ap, ◌∙◌, arith, append_assoc}
use Rattle.std.specs.Prelude.{◌==◌}
use Rattle.std.specs.declared.collections.VecDeque.{VecDeque}
use Rattle.std.specs.declared.alloc.Global.{Global}
use Rattle.meta_base.specs.declared.ids.ArcId.{ArcId}
use Rattle.node_core.specs.Kinds.{on_arc}
use Rattle.node_core.specs.Configs.{numbered, waits_on}
use Rattle.node_core.specs.MachineLaws.{same_test}

pub room_stays : {m n : ℕ} → 0 < m → m ≤ n → 0 < n
room_stays h g = omega (arith, h, g)

module _ {M : Type 0} where
  -- one message more
  pub on_arc_push : (b : ℕ) (ps : List (ArcId × M)) (p : ArcId × M) → on_arc b (map numbered (ps ++ p ∷ [])) ≡ cond (p.0.0 == b) (on_arc b (map numbered ps) ++ p.1 ∷ []) (on_arc b (map numbered ps))
  on_arc_push b [] p = refl
  on_arc_push b (q ∷ ps) p = by (q.0.0 == b) (p.0.0 == b) (on_arc_push b ps p)
    where
      by : (s t : Bool) → on_arc b (map numbered (ps ++ p ∷ [])) ≡ cond t (on_arc b (map numbered ps) ++ p.1 ∷ []) (on_arc b (map numbered ps))
          → cond s (q.1 ∷ on_arc b (map numbered (ps ++ p ∷ []))) (on_arc b (map numbered (ps ++ p ∷ []))) ≡ cond t (cond s (q.1 ∷ on_arc b (map numbered ps)) (on_arc b (map numbered ps)) ++ p.1 ∷ []) (cond s (q.1 ∷ on_arc b (map numbered ps)) (on_arc b (map numbered ps)))
      by true true e = rw e refl
      by true false e = rw e refl
      by false true e = e
      by false false e = e

  -- messages are put on their arcs one by one
  pub put_more : (b : ℕ) (ps : List (ArcId × M)) (p : ArcId × M) (old now new : List M) → now ≡ old ++ on_arc b (map numbered ps) → new ≡ cond (p.0.0 == b) (now ++ p.1 ∷ []) now → new ≡ old ++ on_arc b (map numbered (ps ++ p ∷ []))
  put_more b ps p old now new e put = by (p.0.0 == b) (on_arc_push b ps p) put
    where
      by : (t : Bool) → on_arc b (map numbered (ps ++ p ∷ [])) ≡ cond t (on_arc b (map numbered ps) ++ p.1 ∷ []) (on_arc b (map numbered ps)) → new ≡ cond t (now ++ p.1 ∷ []) now → new ≡ old ++ on_arc b (map numbered (ps ++ p ∷ []))
      by true push put = put ∙ (ap (λ l. l ++ p.1 ∷ []) e ∙ (append_assoc old (on_arc b (map numbered ps)) (p.1 ∷ []) ∙ ap (λ l. old ++ l) (sym push)))
      by false push put = put ∙ (e ∙ ap (λ l. old ++ l) (sym push))

  -- where there is room for these messages there is room for the first
  pub room_first : (p : ArcId × M) (rest : List (ArcId × M)) (spare : ℕ) → length (on_arc p.0.0 (map numbered (p ∷ rest))) ≤ spare → 0 < spare
  room_first p rest spare h = by (p.0.0 == p.0.0) (same_test p.0.0) h
    where
      by : (t : Bool) → t ≡ true → length (cond t (p.1 ∷ on_arc p.0.0 (map numbered rest)) (on_arc p.0.0 (map numbered rest))) ≤ spare → 0 < spare
      by true e h = omega (arith, h)
      by false e h = absurd (cc)

  -- and when it is sent there is room for the others
  pub room_left : (b : ℕ) (p : ArcId × M) (rest : List (ArcId × M)) (old new : ℕ) → length (on_arc b (map numbered (p ∷ rest))) ≤ old → old ≡ cond (p.0.0 == b) (new + 1) new → length (on_arc b (map numbered rest)) ≤ new
  room_left b p rest old new h e = by (p.0.0 == b) h e
    where
      by : (t : Bool) → length (cond t (p.1 ∷ on_arc b (map numbered rest)) (on_arc b (map numbered rest))) ≤ old → old ≡ cond t (new + 1) new → length (on_arc b (map numbered rest)) ≤ new
      by true h e = omega (arith, h, e)
      by false h e = omega (arith, h, e)

  pub sent_more : (b : ℕ) (p : ArcId × M) (rest : List (ArcId × M)) (old new all : List M) → old ++ on_arc b (map numbered (p ∷ rest)) ≡ all → new ≡ cond (p.0.0 == b) (old ++ p.1 ∷ []) old → new ++ on_arc b (map numbered rest) ≡ all
  sent_more b p rest old new all h e = by (p.0.0 == b) h e
    where
      by : (t : Bool) → old ++ cond t (p.1 ∷ on_arc b (map numbered rest)) (on_arc b (map numbered rest)) ≡ all → new ≡ cond t (old ++ p.1 ∷ []) old → new ++ on_arc b (map numbered rest) ≡ all
      by true h e = ap (λ l. l ++ on_arc b (map numbered rest)) e ∙ (append_assoc old (p.1 ∷ []) (on_arc b (map numbered rest)) ∙ h)
      by false h e = ap (λ l. l ++ on_arc b (map numbered rest)) e ∙ h

  -- a new link, on which nothing waits
  pub waits_push : (links : List (VecDeque M Global)) (q : VecDeque M Global) (b : ℕ) → ((a : ℕ) → waits_on links a ≡ []) → q.items ≡ [] → waits_on (links ++ q ∷ []) b ≡ []
  waits_push [] q zero none e = e
  waits_push [] q (suc b) none e = refl
  waits_push (l ∷ links) q zero none e = none 0
  waits_push (l ∷ links) q (suc b) none e = waits_push links q b (λ a. none (suc a)) e
