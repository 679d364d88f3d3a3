-- What a node holds, as its set of numbers shows it.
use Rattle.std.proofs.Common.{◌≡◌, ℕ, List, [], ◌∷◌, ◌++◌, Bool, true, false, ◌||◌, refl, sym, ap, ◌∙◌}
use Rattle.std.specs.Prelude.{◌==◌}
use Rattle.flood_node.specs.Cards.{PureCard}
use Rattle.flood_node.specs.Node.{has_card}
use Rattle.number_sets.specs.NumberLaws.{no_number}
use Rattle.number_sets.specs.NumberSets.{has_number}
use Rattle.flood_node.specs.Sets.{AreNodesOf}

-- a card more, tested
pub has_more : (cards : List PureCard) (card : PureCard) (i : ℕ) → has_card (cards ++ card ∷ []) i ≡ (has_card cards i || card.node == i)
has_more [] card i = by (card.node == i)
  where
    by : (b : Bool) → (b || false) ≡ b
    by true = refl
    by false = refl
has_more (c ∷ cards) card i = by (c.node == i) (has_more cards card i)
  where
    by : (b : Bool) → has_card (cards ++ card ∷ []) i ≡ (has_card cards i || card.node == i) → (b || has_card (cards ++ card ∷ []) i) ≡ ((b || has_card cards i) || card.node == i)
    by true r = refl
    by false r = r

-- a card more, and its number
pub nodes_more : (old new : List ℕ) (cards all : List PureCard) (card : PureCard) → AreNodesOf old cards → ((i : ℕ) → has_number new i ≡ (has_number old i || card.node == i)) → all ≡ cards ++ card ∷ [] → AreNodesOf new all
nodes_more old new cards all card are more is i = more i ∙ (ap (λ b. b || card.node == i) (are i) ∙ (sym (has_more cards card i) ∙ ap (λ l. has_card l i) (sym is)))

-- one card
pub nodes_one : (new : List ℕ) (card : PureCard) (number : ℕ) → card.node ≡ number → ((i : ℕ) → has_number new i ≡ (has_number [] i || number == i)) → AreNodesOf new (card ∷ [])
nodes_one new card number is more i = more i ∙ (ap (λ b. b || number == i) (no_number i) ∙ (ap (λ z. z == i) (sym is) ∙ by (card.node == i)))
  where
    by : (b : Bool) → b ≡ (b || false)
    by true = refl
    by false = refl
