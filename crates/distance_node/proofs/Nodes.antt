-- The state of a node by its fields, and what it keeps.
use Rattle.std.proofs.Common.{◌≡◌, ℕ, zero, suc, ◌+◌, ◌*◌, ◌<◌, ◌≤◌, ◌^◌, List, [], Bool, true, false, ◌==◌, length, cond, slice_get, Option, Some, None, subst, refl, sym, ap, ◌∙◌, arith}
use Rattle.std.specs.Prelude.{IfSome, OnErr, Result, Ok, Err, nat_lt, option_map, option_and_then}
use Rattle.std.specs.declared.cmp.Ordering.TheVariants.{Less}
use Rattle.std.proofs.Math.ListN.{set}
use Rattle.std.proofs.Math.Path.{fun_ext}
use Rattle.std.proofs.lemmas.Bool.{and_right, eqb-true}
use Rattle.std.proofs.lemmas.Bool.Decides.{nat_tests}
use Rattle.alg_model.specs.Bounds.{AtMost}
use Rattle.alg_model.specs.Carriers.{In, Order}
use Rattle.alg_model.specs.Expressions.{PureValue}
use Rattle.alg_model.specs.Laws.{at_most_more}
use Rattle.net_graph.specs.Nets.{PureArc, PureNet, IsNet, arcs_from, arcs_to}
use Rattle.net_graph.specs.Tables.{carrier}
use Rattle.node_core.specs.Machine.{changed_at}
use Rattle.node_core.specs.declared.node.TheConstants.{MAX_CLOCK}
use Rattle.distance_node.specs.declared.chosen.Chosen.{Chosen}
use Rattle.distance_node.specs.Beginning.{AreBegun}
use Rattle.distance_node.specs.Chosen.{IsBest, entry_of, hop_at}
use Rattle.distance_node.specs.Choosing.{first_is_best, none_is_best, not_itself}
use Rattle.distance_node.specs.Fitting.{clock_room}
use Rattle.distance_node.specs.Node.{Hop, DvState, PureVector, Begin, value_of, choice, heard_with, hop_by, new_node, offers, own_hop, same_reported, taken, reported_on, vector_of}
use Rattle.distance_node.specs.Nodes.{HasHeard, HasRows, PureNode, row_list, state_of}
use Rattle.distance_node.specs.Offers.{entry_map, own_is, own_may}
use Rattle.distance_node.specs.Places.{heard_by, place_of, values_in, width}
use Rattle.distance_node.specs.Tellings.{reported_of}
use Rattle.distance_node.proofs.Owns.{no_origin_outside}
use Rattle.distance_node.proofs.Pushing.{entry_mapped, entry_outside, entry_set, set_length}

-- what holds, holds after a refusal
pub on_refusal : {T E : Type 0} (P : Type 0) (r : Result T E) → P → OnErr r P
on_refusal P (Ok x) p = tt
on_refusal P (Err e) p = p

-- ---- rows

-- the rows, as hops
abbrev pub hops_at : {S : Type 0} → (S → PureValue) → PureNet → ℕ → List (Option (Chosen S)) → ℕ → Option Hop
hops_at value net i rows dest = option_map (hop_at value net i) (entry_of rows dest)

-- the best of the offers is the choice
pub best_is_choice : {S : Type 0} (value : S → PureValue) (net : PureNet) (dest i : ℕ) (heard : ℕ → Option PureValue) (row : Option (Chosen S)) → IsBest value net i (offers net dest i heard) row
    → option_map (hop_at value net i) row ≡ choice net dest i heard
best_is_choice value net dest i heard None best = sym (none_is_best (carrier net) (offers net dest i heard) best)
best_is_choice value net dest i heard (Some r) best = sym (first_is_best (carrier net) (offers net dest i heard) r.offer (hop_at value net i r) best)

module _ {S : Type 0} (value : S → PureValue) (net : PureNet) (i : ℕ) where
  -- the rows, one of which changed
  pub rows_changed : (rows : List (Option (Chosen S))) (dest : ℕ) (next : Option (Chosen S)) → dest < length rows
      → hops_at value net i (set rows dest next) ≡ changed_at (hops_at value net i rows) dest (option_map (hop_at value net i) next)
  rows_changed rows dest next l = fun_ext (λ d. ap (option_map (hop_at value net i)) (entry_set rows dest next d l) ∙ by d (d == dest))
    where
      by : (d : ℕ) (b : Bool) → option_map (hop_at value net i) (cond b next (entry_of rows d)) ≡ cond b (option_map (hop_at value net i) next) (hops_at value net i rows d)
      by d true = refl
      by d false = refl

-- ---- states by fields

abbrev pub state_with : PureNet → ℕ → Bool → (ℕ → ℕ → Option PureValue) → (ℕ → Option Hop) → ℕ → DvState
state_with net number begun heard rows last =
    record {
      net = net;
      number = number;
      is_begun = begun;
      heard = heard;
      rows = rows;
      last = last;
    }

module _ {S : Type 0} (value : S → PureValue) (net : PureNet) (number : ℕ) where
  abbrev pub node_with : Bool → List (Option S) → List (Option (Chosen S)) → ℕ → PureNode
  node_with begun heard rows last =
      record {
        net = net;
        number = number;
        is_begun = begun;
        heard = values_in value heard;
        rows = row_list value net number rows;
        last = last;
      }

  pub state_is : (begun : Bool) (heard : List (Option S)) (rows : List (Option (Chosen S))) (last : ℕ)
      → state_of (node_with begun heard rows last) ≡ state_with net number begun (heard_by value net number heard) (hops_at value net number rows) last
  state_is begun heard rows last =
      ap (λ r. state_with net number begun (heard_by value net number heard) r last) (fun_ext (λ dest. entry_mapped (hop_at value net number) rows dest))

  -- where nothing is heard
  pub nothing_heard : (heard : List (Option S)) → ((k : ℕ) → entry_of heard k ≡ None) → heard_by value net number heard ≡ λ a dest. None
  nothing_heard heard none = fun_ext (λ a. fun_ext (λ dest. by dest (place_of a (arcs_from net number))))
    where
      by : (dest : ℕ) (o : Option ℕ) → option_and_then (λ k. entry_of (values_in value heard) (dest * width net number + k)) o ≡ None
      by dest None = refl
      by dest (Some k) = entry_mapped value heard (dest * width net number + k) ∙ ap (option_map value) (none (dest * width net number + k))

  -- a node that heard nothing and has no rows is new
  pub new_is : (heard : List (Option S)) (rows : List (Option (Chosen S))) → ((k : ℕ) → entry_of heard k ≡ None) → ((k : ℕ) → entry_of rows k ≡ None) → state_of (node_with false heard rows 0) ≡ new_node net number
  new_is heard rows silent none =
      state_is false heard rows 0
      ∙ (ap (λ h. state_with net number false h (hops_at value net number rows) 0) (nothing_heard heard silent)
      ∙ ap (λ r. state_with net number false (λ a dest. None) r 0) (fun_ext (λ dest. ap (option_map (hop_at value net number)) (none dest))))

  -- ---- begun nodes

  module _ (n : IsNet net) (is_sig : S → Type 0) (count : ℕ) (all : count ≡ length net.dests) (rows : List (Option (Chosen S))) (are : AreBegun is_sig value net number count rows) where
    -- each row is the own origin's offer
    begun_hop : (dest : ℕ) → hops_at value net number rows dest ≡ own_hop net dest number
    begun_hop dest = by (nat_lt dest count) refl
      where
        by : (b : Bool) → nat_lt dest count ≡ b → hops_at value net number rows dest ≡ own_hop net dest number
        by true e = are.hops dest (grind (arith, nat_tests))
        by false e =
            let out : ¬ (dest < length net.dests) = (λ l. let m = l in let c = all in grind (arith, nat_tests)) in
            let past : ¬ (dest < length rows) = (λ l. out (let c = are.row_count in let d = all in omega (arith, c, d, l))) in
            rw (entry_outside rows dest past, no_origin_outside net dest number n out) refl

    pub begun_is : (begun : Bool) (heard : List (Option S)) (old : List (Option (Chosen S))) (last : ℕ) → state_of (node_with true heard rows 0) ≡ (Begin (state_of (node_with begun heard old last))).0
    begun_is begun heard old last =
        state_is true heard rows 0 ∙ ap (λ r. state_with net number true (heard_by value net number heard) r 0) (fun_ext begun_hop)

    -- and the best of what a node is offered that heard nothing
    pub begun_best : (heard : List (Option S)) → ((k : ℕ) → entry_of heard k ≡ None) → (dest : ℕ) → IsBest value net number (offers net dest number (λ a. heard_by value net number heard a dest)) (entry_of rows dest)
    begun_best heard silent dest =
        subst (λ (h : ℕ → ℕ → Option PureValue). IsBest value net number (offers net dest number (λ a. h a dest)) (entry_of rows dest)) (sym (nothing_heard heard silent))
        (by (entry_of rows dest) (begun_hop dest) (are.first dest))
      where
        others : (k : ℕ) → entry_of (offers net dest number (λ a. None)) (suc k) ≡ None
        others k = entry_map (λ (a : PureArc). hop_by net a None) (arcs_from net number) k ∙ nothing (slice_get (arcs_from net number) k)
          where
            nothing : (o : Option PureArc) → option_and_then (λ (a : PureArc). hop_by net a None) o ≡ None
            nothing None = refl
            nothing (Some a) = refl

        by : (o : Option (Chosen S)) → option_map (hop_at value net number) o ≡ own_hop net dest number → ((r : Chosen S) → o ≡ Some r → r.offer ≡ 0) → IsBest value net number (offers net dest number (λ a. None)) o
        by None e f = none
          where
            none : (k : ℕ) → entry_of (offers net dest number (λ a. None)) k ≡ None
            none zero = sym e
            none (suc k) = others k
        by (Some r) e f = record { there = there; unbeaten = unbeaten; first = λ k g l. absurd (let z = f r refl in omega (arith, l, z)) }
          where
            there : entry_of (offers net dest number (λ a. None)) r.offer ≡ Some (hop_at value net number r)
            there = ap (entry_of (offers net dest number (λ a. None))) (f r refl) ∙ sym e

            h_in : In (carrier net) (value r.sig)
            h_in = (own_may net n dest number 0 (hop_at value net number r) (own_is net dest number (hop_at value net number r) (sym e))).value_in

            unbeaten : (k : ℕ) (g : Hop) → entry_of (offers net dest number (λ a. None)) k ≡ Some g → ¬ (Order (carrier net) g.value (value r.sig) ≡ Less)
            unbeaten zero g h =
                let one : Some (hop_at value net number r) ≡ Some g = e ∙ h in
                let same : hop_at value net number r ≡ g = cc in
                subst (λ (z : Hop). ¬ (Order (carrier net) z.value (value r.sig) ≡ Less)) same (not_itself (carrier net) (value r.sig) h_in)
            unbeaten (suc k) g h = absurd (let z : None ≡ Some g = sym (others k) ∙ h in cc)

    pub begun_rows : (heard : List (Option S)) → ((k : ℕ) → entry_of heard k ≡ None) → HasRows is_sig value net number heard rows
    begun_rows heard silent = record { sigs = are.sigs; best = begun_best heard silent }

  -- ---- a message more

  module _ (heard new : List (Option S)) (rows : List (Option (Chosen S))) (last arc dest clock : ℕ) (reported : Option S) (next : Option (Chosen S)) (m : PureVector)
      (dest_is : dest ≡ m.dest) (reported_is : option_map value reported ≡ m.value)
      (heard_is : heard_by value net number new ≡ heard_with (heard_by value net number heard) arc dest (option_map value reported)) (within : dest < length rows)
      (best : IsBest value net number (offers net dest number (λ a. heard_with (heard_by value net number heard) arc dest (option_map value reported) a dest)) next)
    where
      abbrev row : Option Hop
      row = option_map (hop_at value net number) next

      abbrev chosen : Option Hop
      chosen = choice net m.dest number (λ a. heard_with (heard_by value net number heard) arc m.dest m.value a m.dest)

      row_is : row ≡ choice net m.dest number (λ a. heard_with (heard_by value net number heard) arc m.dest m.value a m.dest)
      row_is =
          best_is_choice value net dest number (λ a. heard_with (heard_by value net number heard) arc dest (option_map value reported) a dest) next best
          ∙ (ap (λ z. choice net dest number (λ a. heard_with (heard_by value net number heard) arc dest z a dest)) reported_is
          ∙ ap (λ z. choice net z number (λ a. heard_with (heard_by value net number heard) arc z m.value a z)) dest_is)

      pub taken_is : (begun : Bool) → state_of (node_with begun new (set rows dest next) clock) ≡ (taken (state_of (node_with begun heard rows last)) arc m clock).0
      taken_is begun =
          state_is begun new (set rows dest next) clock
          ∙ (ap (λ h. state_with net number begun h (hops_at value net number (set rows dest next)) clock) (heard_is ∙ (ap (heard_with (heard_by value net number heard) arc dest) reported_is ∙ ap (λ z. heard_with (heard_by value net number heard) arc z m.value) dest_is))
          ∙ (ap (λ r. state_with net number begun (heard_with (heard_by value net number heard) arc m.dest m.value) r clock) (rows_changed value net number rows dest next within
          ∙ (ap (changed_at (hops_at value net number rows) dest) row_is ∙ ap (λ z. changed_at (hops_at value net number rows) z (choice net m.dest number (λ a. heard_with (heard_by value net number heard) arc m.dest m.value a m.dest))) dest_is))
          ∙ ap (λ s. (taken s arc m clock).0) (sym (state_is begun heard rows last))))

      -- what is sent of the row
      pub reported_is_taken : (begun : Bool) (sent : List (ℕ × PureVector))
          → sent ≡ cond (same_reported (reported_of value next) (reported_of value (entry_of rows dest))) []
          (reported_on (arcs_to net number) (record { dest = dest; value = reported_of value next; stamp = clock }))
          → sent ≡ (taken (state_of (node_with begun heard rows last)) arc m clock).1
      reported_is_taken begun sent e =
          e ∙ (ap (λ v. cond (same_reported v (reported_of value (entry_of rows dest))) [] (reported_on (arcs_to net number) (record { dest = dest; value = v; stamp = clock }))) (value_is next)
          ∙ (ap (λ v. cond (same_reported (value_of row) v) [] (reported_on (arcs_to net number) (vector_of dest row clock))) (value_is (entry_of rows dest))
          ∙ (ap (λ r. cond (same_reported (value_of r) (value_of (hops_at value net number rows dest))) [] (reported_on (arcs_to net number) (vector_of dest r clock))) row_is
          ∙ (ap (λ z. cond (same_reported (value_of chosen) (value_of (hops_at value net number rows z))) [] (reported_on (arcs_to net number) (vector_of z chosen clock))) dest_is
          ∙ ap (λ s. (taken s arc m clock).1) (sym (state_is begun heard rows last))))))
        where
          value_is : (r : Option (Chosen S)) → reported_of value r ≡ value_of (option_map (hop_at value net number) r)
          value_is None = refl
          value_is (Some r) = refl

  -- what the node keeps then
  pub heard_more : (is_sig : S → Type 0) (heard : List (Option S)) (last clock at : ℕ) (reported : Option S) → HasHeard is_sig value net number last heard → last ≤ clock → clock ≤ MAX_CLOCK → at < length heard
      → IfSome reported (λ s. is_sig s × AtMost (clock * 2 ^ 64) (value s)) → HasHeard is_sig value net number clock (set heard at reported)
  heard_more is_sig heard last clock at reported kept later early inside may = record { count = set_length heard at reported ∙ kept.count; each = each; early = early }
    where
      each : (k : ℕ) (s : S) → entry_of (set heard at reported) k ≡ Some s → is_sig s × AtMost (clock * 2 ^ 64) (value s)
      each k s e = by (k == at) (sym (entry_set heard at reported k inside) ∙ e)
        where
          of : (o : Option S) → IfSome o (λ s. is_sig s × AtMost (clock * 2 ^ 64) (value s)) → o ≡ Some s → is_sig s × AtMost (clock * 2 ^ 64) (value s)
          of None h f = absurd (cc)
          of (Some x) h f = let same : x ≡ s = cc in subst (λ z. is_sig z × AtMost (clock * 2 ^ 64) (value z)) same h

          by : (b : Bool) → cond b reported (entry_of heard k) ≡ Some s → is_sig s × AtMost (clock * 2 ^ 64) (value s)
          by true f = of reported may f
          by false f =
              let known = kept.each k s f in
              (known.0, at_most_more (last * 2 ^ 64) (clock * 2 ^ 64) (value s) (clock_room last clock later) known.1)

  -- and at a later clock
  pub heard_later : (is_sig : S → Type 0) (heard : List (Option S)) (last clock : ℕ) → HasHeard is_sig value net number last heard → last ≤ clock → clock ≤ MAX_CLOCK → HasHeard is_sig value net number clock heard
  heard_later is_sig heard last clock kept later early = record {
    count = kept.count;
    each = λ k s e. let known = kept.each k s e in (known.0, at_most_more (last * 2 ^ 64) (clock * 2 ^ 64) (value s) (clock_room last clock later) known.1);
    early = early;
  }

  pub rows_more : (is_sig : S → Type 0) (heard new : List (Option S)) (rows : List (Option (Chosen S))) (arc dest : ℕ) (reported : Option PureValue) (next : Option (Chosen S)) → HasRows is_sig value net number heard rows
      → heard_by value net number new ≡ heard_with (heard_by value net number heard) arc dest reported → dest < length rows
      → IfSome next (λ r. is_sig r.sig)
      → IsBest value net number (offers net dest number (λ a. heard_with (heard_by value net number heard) arc dest reported a dest)) next
      → HasRows is_sig value net number new (set rows dest next)
  rows_more is_sig heard new rows arc dest reported next has heard_is within sig best = record { sigs = sigs; best = bests }
    where
      sigs : (d : ℕ) (r : Chosen S) → entry_of (set rows dest next) d ≡ Some r → is_sig r.sig
      sigs d r e = by (d == dest) (sym (entry_set rows dest next d within) ∙ e)
        where
          of : (o : Option (Chosen S)) → IfSome o (λ r. is_sig r.sig) → o ≡ Some r → is_sig r.sig
          of None h f = absurd (cc)
          of (Some x) h f = let same : x ≡ r = cc in subst (λ (z : Chosen S). is_sig z.sig) same h

          by : (b : Bool) → cond b next (entry_of rows d) ≡ Some r → is_sig r.sig
          by true f = of next sig f
          by false f = has.sigs d r f

      bests : (d : ℕ) → IsBest value net number (offers net d number (λ a. heard_by value net number new a d)) (entry_of (set rows dest next) d)
      bests d =
          subst (λ (h : ℕ → ℕ → Option PureValue). IsBest value net number (offers net d number (λ a. h a d)) (entry_of (set rows dest next) d)) (sym heard_is)
          (subst (λ r. IsBest value net number (offers net d number (λ a. heard_with (heard_by value net number heard) arc dest reported a d)) r) (sym (entry_set rows dest next d within)) (by (d == dest) refl))
        where
          by : (b : Bool) → (d == dest) ≡ b
              → IsBest value net number (offers net d number (λ a. heard_with (heard_by value net number heard) arc dest reported a d)) (cond b next (entry_of rows d))
          by true e =
              let same : dest ≡ d = sym (eqb-true d dest e) in
              subst (λ z. IsBest value net number (offers net z number (λ a. heard_with (heard_by value net number heard) arc dest reported a z)) next) same best
          by false e =
              let kept : (λ a. heard_by value net number heard a d) ≡ (λ a. heard_with (heard_by value net number heard) arc dest reported a d) =
              fun_ext (λ a. sym (ap (λ t. cond t reported (heard_by value net number heard a d)) (and_right (a == arc) (d == dest) e))) in
              subst (λ h. IsBest value net number (offers net d number h) (entry_of rows d)) kept (has.best d)
