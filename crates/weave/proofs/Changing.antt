-- Blocks of which one gets another lane or another seat, or loses one.
use Rattle.std.proofs.Common.{◌≡◌, ℕ, zero, suc, Bool, true, false, cond, List, [], ◌∷◌, ◌++◌, Option, Some, option_map, slice_get, slice_set, refl, sym, ap, subst, ◌∙◌}
use Rattle.std.specs.Prelude.{◌==◌, IfOk, OnOk, Ok, Err}
use Rattle.std.specs.Option.{option_map_or}
use Rattle.std.specs.declared.result.Result.{Result}
use Rattle.std.proofs.lemmas.Bool.{eqb-false}
use Rattle.node_core.specs.Machine.{changed_at}
use Rattle.node_core.specs.MachineLaws.{same_test, at_each}
use Rattle.weave.specs.declared.lane.Lane.{Lane}
use Rattle.weave.specs.declared.seat.Seat.{Seat}
use Rattle.weave.specs.declared.block.Block.{Block}
use Rattle.weave.specs.Lanes.{lane_in, lane_of, noted_lane}
use Rattle.weave.specs.Views.{View}
use Rattle.weave.specs.Blocks.{view_of, flat, clock_in, log_in}
use Rattle.weave.specs.Arcs.{IsReplaced}
use Rattle.weave.specs.Apart.{IsSeatTaken}
use Rattle.weave.specs.Dealt.{IsSeatPut}
use Rattle.weave.specs.Gathered.{view_at, no_view}
use Rattle.weave.proofs.Places.{set_same, set_other}

-- what two clauses say of an answer, put together
pub if_both : {X E : Type 0} (r : Result X E) (P R : X → Type 0) (Q : Type 0) → IfOk r P → OnOk r Q → ((x : X) → P x → Q → R x) → IfOk r R
if_both (Ok x) P R Q p q f = f x p q
if_both (Err e) P R Q p q f = tt

pub on_ok : {X E : Type 0} (r : Result X E) (P Q : Type 0) → OnOk r P → (P → Q) → OnOk r Q
on_ok (Ok x) P Q p f = f p
on_ok (Err e) P Q p f = tt

-- what is found at each number of a list, where one is set
pub found_set : {X Y : Type 0} (f : Option X → Y) (xs : List X) (i : ℕ) (x y : X) → slice_get xs i ≡ Some y → (j : ℕ) → f (slice_get (slice_set xs i x) j) ≡ changed_at (λ n. f (slice_get xs n)) i (f (Some x)) j
found_set f xs i x y e =
    at_each (λ j. f (slice_get (slice_set xs i x) j) ≡ changed_at (λ n. f (slice_get xs n)) i (f (Some x)) j) i
    (rw (same_test i) (ap f (set_same xs i x y e)))
    (λ j ne. rw ne (ap f (set_other xs i j x (eqb-false j i ne))))

-- what no one sees change, at the place and elsewhere
pub found_same : {X Y : Type 0} (f : Option X → Y) (xs : List X) (i : ℕ) (x y : X) → slice_get xs i ≡ Some y → f (Some x) ≡ f (Some y) → (j : ℕ) → f (slice_get (slice_set xs i x) j) ≡ f (slice_get xs j)
found_same f xs i x y e same =
    at_each (λ j. f (slice_get (slice_set xs i x) j) ≡ f (slice_get xs j)) i
    (ap f (set_same xs i x y e) ∙ (same ∙ sym (ap f e)))
    (λ j ne. ap f (set_other xs i j x (eqb-false j i ne)))

-- a change, as it is seen
pub changed_by : {X Y : Type 0} (f : X → Y) (g : ℕ → X) (i : ℕ) (x : X) (n : ℕ) → f (changed_at g i x n) ≡ changed_at (λ m. f (g m)) i (f x) n
changed_by f g i x n = by (n == i)
  where
    by : (t : Bool) → f (cond t x (g n)) ≡ cond t (f x) (f (g n))
    by true = refl
    by false = refl

module _ {N M S W : Type 0} (state : N → S) (note : M → W) where
  abbrev pub view_in : Option (Block N M) → View S W
  view_in o = option_map_or (view_of state note) o no_view

  pub same_views : (blocks : List (Block N M)) (b : ℕ) (x y : Block N M) → slice_get blocks b ≡ Some x → view_of state note y ≡ view_of state note x → (c : ℕ) → view_at state note (slice_set blocks b y) c ≡ view_at state note blocks c
  same_views blocks b x y e same = found_same view_in blocks b y x e same

  -- the view of a block, and of one that is set
  pub view_here : (blocks : List (Block N M)) (b : ℕ) (x : Block N M) → slice_get blocks b ≡ Some x → view_at state note blocks b ≡ view_of state note x
  view_here blocks b x e = ap view_in e

  pub view_set : (blocks : List (Block N M)) (b : ℕ) (x y : Block N M) → slice_get blocks b ≡ Some x → view_at state note (slice_set blocks b y) b ≡ view_of state note y
  view_set blocks b x y e = ap view_in (set_same blocks b y x e)

  pub view_other : (blocks : List (Block N M)) (b : ℕ) (y : Block N M) (c : ℕ) → (c == b) ≡ false → view_at state note (slice_set blocks b y) c ≡ view_at state note blocks c
  view_other blocks b y c ne = ap view_in (set_other blocks b c y (eqb-false c b ne))

  -- what is seen of the views where a block is set, if that of the block is given by the old one
  pub found_at : {Y : Type 0} (f r : View S W → Y) (blocks : List (Block N M)) (b : ℕ) (x y : Block N M) → slice_get blocks b ≡ Some x → f (view_of state note y) ≡ r (view_of state note x)
      → (c : ℕ) → f (view_at state note (slice_set blocks b y) c) ≡ cond (c == b) (r (view_at state note blocks c)) (f (view_at state note blocks c))
  found_at f r blocks b x y e same =
      at_each (λ c. f (view_at state note (slice_set blocks b y) c) ≡ cond (c == b) (r (view_at state note blocks c)) (f (view_at state note blocks c))) b
      (rw (same_test b) (ap (λ o. f (view_in o)) (set_same blocks b y x e) ∙ (same ∙ sym (ap (λ o. r (view_in o)) e))))
      (λ c ne. rw ne (ap (λ o. f (view_in o)) (set_other blocks b c y (eqb-false c b ne))))

  pub replaced : (blocks : List (Block N M)) (b a : ℕ) (x y : Block N M) (was is : Lane M) → slice_get blocks b ≡ Some x → y.seats ≡ x.seats → lane_in (slice_get x.lanes.items a) ≡ lane_of was
      → ((n : ℕ) → lane_in (slice_get y.lanes.items n) ≡ changed_at (λ n. lane_in (slice_get x.lanes.items n)) a (lane_of is) n)
      → IsReplaced (view_at state note blocks) (view_at state note (slice_set blocks b y)) b a (noted_lane note (lane_of was)) (noted_lane note (lane_of is))
  replaced blocks b a x y was is e seats lane_was lane_is =
      record {
        seats = record {
          node_is = λ c i. found_same (λ o. (view_in o).node i) blocks b y x e (ap (λ s. (view_of state note (record y { seats = s })).node i) seats) c;
          clock_is = λ c i. found_same (λ o. (view_in o).clock i) blocks b y x e (ap (λ s. (view_of state note (record y { seats = s })).clock i) seats) c;
          log_is = λ c i. found_same (λ o. (view_in o).log i) blocks b y x e (ap (λ s. (view_of state note (record y { seats = s })).log i) seats) c;
        };
        lane_was = ap (λ o. (view_in o).lane a) e ∙ ap (noted_lane note) lane_was;
        lane_is = λ c n. found_at (λ v. v.lane n) (λ v. changed_at v.lane a (noted_lane note (lane_of is)) n) blocks b x y e
            (ap (noted_lane note) (lane_is n) ∙ changed_by (noted_lane note) (λ m. lane_in (slice_get x.lanes.items m)) a (lane_of is) n) c;
      }

  pub seated : (blocks : List (Block N M)) (b i : ℕ) (x y : Block N M) (seat : Seat N M) → slice_get blocks b ≡ Some x → y.lanes ≡ x.lanes
      → ((n : ℕ) → flat (slice_get y.seats.items n) ≡ changed_at (λ n. flat (slice_get x.seats.items n)) i (Some seat) n)
      → IsSeatPut (view_at state note blocks) (view_at state note (slice_set blocks b y)) b i (state seat.node) seat.clock seat.log
  seated blocks b i x y seat e lanes put =
      let stood : ℕ → Option (Seat N M) = λ m. flat (slice_get x.seats.items m) in
      let of_state : Option (Seat N M) → Option S = option_map (λ (s : Seat N M). state s.node) in
      record {
        node_is = λ c n. found_at (λ v. v.node n) (λ v. changed_at v.node i (Some (state seat.node)) n) blocks b x y e (ap of_state (put n) ∙ changed_by of_state stood i (Some seat) n) c;
        clock_is = λ c n. found_at (λ v. v.clock n) (λ v. changed_at v.clock i seat.clock n) blocks b x y e (ap clock_in (put n) ∙ changed_by clock_in stood i (Some seat) n) c;
        log_is = λ c n. found_at (λ v. v.log n) (λ v. changed_at v.log i seat.log n) blocks b x y e (ap log_in (put n) ∙ changed_by log_in stood i (Some seat) n) c;
        lane_is = λ c a. found_same (λ o. (view_in o).lane a) blocks b y x e (ap (λ ls. (view_of state note (record y { lanes = ls })).lane a) lanes) c;
      }

  pub taken : (blocks : List (Block N M)) (b i : ℕ) (x y : Block N M) (seat : Seat N M) → slice_get blocks b ≡ Some x → flat (slice_get x.seats.items i) ≡ Some seat
      → ((n : ℕ) → (n == i) ≡ false → flat (slice_get y.seats.items n) ≡ flat (slice_get x.seats.items n))
      → IsSeatTaken (view_at state note blocks) (view_at state note (slice_set blocks b y)) b i (state seat.node) seat.log
  taken blocks b i x y seat e was others =
      let of_state : Option (Seat N M) → Option S = option_map (λ (s : Seat N M). state s.node) in
      record {
        node_was = ap (λ o. (view_in o).node i) e ∙ ap of_state was;
        log_was = ap (λ o. (view_in o).log i) e ∙ ap log_in was;
        node_is = λ c n ne. found_same (λ o. (view_in o).node n) blocks b y x e (ap of_state (others n ne)) c;
        log_is = λ c n ne. found_same (λ o. (view_in o).log n) blocks b y x e (ap log_in (others n ne)) c;
      }

  -- what holds of each block's view, and of one block more
  view_push : (P : View S W → Type 0) (blocks : List (Block N M)) (x : Block N M) → ((b : ℕ) → P (view_at state note blocks b)) → P (view_of state note x) → (b : ℕ) → P (view_at state note (blocks ++ x ∷ []) b)
  view_push P [] x all one zero = one
  view_push P [] x all one (suc b) = all (suc b)
  view_push P (y ∷ blocks) x all one zero = all 0
  view_push P (y ∷ blocks) x all one (suc b) = view_push P blocks x (λ c. all (suc c)) one b

  pub views_pushed : (P : View S W → Type 0) (blocks more : List (Block N M)) (x : Block N M) → more ≡ blocks ++ x ∷ [] → ((b : ℕ) → P (view_at state note blocks b)) → P (view_of state note x) → (b : ℕ) → P (view_at state note more b)
  views_pushed P blocks more x e all one b = subst (λ l. P (view_at state note l b)) (sym e) (view_push P blocks x all one b)
