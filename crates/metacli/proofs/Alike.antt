-- Quiet runs of one network end alike.
use Rattle.std.proofs.Common.{◌≡◌, ℕ, ◌-◌, Bool, true, false, List, [], ◌∷◌, length, map, Some, None, refl, sym, ap, ◌∙◌, subst}
use Rattle.alg_model.specs.Expressions.{PureAlg}
use Rattle.alg_model.specs.Properties.{monotone, strict}
use Rattle.net_gen.specs.Generated.{Generated}
use Rattle.net_gen.specs.Networks.{demo_alg}
use Rattle.net_graph.specs.Changes.{PureChange, after_all, changed}
use Rattle.net_graph.specs.Nets.{PureNet}
use Rattle.net_graph.specs.Tables.{PureRow, NetHas, AreSettledRows}
use Rattle.path_vector.specs.Node.{PvState, carried}
use Rattle.report_text.specs.Refusals.{words, expr, network, report, misses, read, long, memory}
use Rattle.topology_file.specs.NetText.{PureNetFile, HasOneOutcome, NetText, changed_net}
use Rattle.vector_runs.specs.Runs.{AreStable, IsRun, PurePhase, RunsFrom, new_nodes}
use Rattle.vector_runs.specs.Turns.{AreMonotone}
use Rattle.metacli.specs.Alike.{still, undelivered}
use Rattle.metacli.specs.Answers.{done, refused, spent}
use Rattle.metacli.specs.After.{nets_after}
use Rattle.metacli.specs.Outcome.{PureOutcome, stopped, checked, coded, routed, hopped, judged, wedged, ran, flooded, exchanged, shown, IsRoutedAs, IsRunAs, IsShownAs, answer_in, rows_in}
use Rattle.metacli.specs.declared.routing.Solution.TheVariants.{AllStable}

-- no two lists of rows are settled
settled_once : (net : PureNet) (rows others : List PureRow) → NetHas monotone net → AreSettledRows net rows → AreSettledRows net others → rows ≡ others
settled_once net rows others all s t = t.only all rows s.stable

abbrev still_rows : List PureRow → PurePhase
still_rows rows = record { rows = rows; journal = [] }

-- the phases of two quiet runs through the same networks, one after another
alike : (net : PureNet) (nets : List PureNet) (nodes others : List PvState) (turns more : ℕ) (past : List PurePhase) (last : PurePhase) (before : List PurePhase) (end : PurePhase)
    → AreMonotone net nets → RunsFrom nodes net nets turns past last true → RunsFrom others net nets more before end true → AreStable net nets past last true → AreStable net nets before end true
    → (map still past ≡ map still before) × (still last ≡ still end)
alike net [] nodes others turns more [] last [] end all r q s t = (refl, ap still_rows (settled_once net last.rows end.rows all.0 (s refl) (t refl)))
alike net [] nodes others turns more (p ∷ past) last before end all r q s t = absurd r
alike net [] nodes others turns more [] last (p ∷ before) end all r q s t = absurd q
alike net (m ∷ nets) nodes others turns more [] last before end all r q s t = let no : m ∷ nets ≡ [] = r.2 refl in absurd cc
alike net (m ∷ nets) nodes others turns more (p ∷ past) last [] end all r q s t = let no : m ∷ nets ≡ [] = q.2 refl in absurd cc
alike net (m ∷ nets) nodes others turns more (p ∷ past) last (b ∷ before) end all r q s t =
    let rest = alike m nets (map (carried m) r.0) (map (carried m) q.0) (turns - length p.journal) (more - length b.journal) past last before end all.1 r.2 q.2 s.1 t.1 in
    let first : still p ≡ still b = ap still_rows (settled_once net p.rows b.rows all.0 s.0 t.0) in
    (ap (λ x. x ∷ map still past) first ∙ ap (λ xs. still b ∷ xs) rest.0, rest.1)

-- what a run comes to that is quiet
record Quiet (traced : Bool) (turns : ℕ) (a : PureAlg) (f : PureNetFile) (o : PureOutcome) : Type 0 where
  past : List PurePhase
  last : PurePhase
  is : o ≡ ran a f traced past last true
  run : IsRun f.net (nets_after f.net f.changes) turns past last true
  stable : AreStable f.net (nets_after f.net f.changes) past last true

quiet : (traced : Bool) (turns : ℕ) (a : PureAlg) (f : PureNetFile) (o : PureOutcome) → IsRunAs traced turns a f o → answer_in o ≡ done → Quiet traced turns a f o
quiet traced turns a f (ran b g t past last true) h e = record { past = past; last = last; is = rw (h.0, h.1, h.2) refl; run = h.3; stable = h.4 }
quiet traced turns a f (ran b g t past last false) h e = let no : spent ≡ done = e in absurd cc
quiet traced turns a f (stopped b g memory) h e = let no : refused memory ≡ done = e in absurd cc
quiet traced turns a f (stopped b g (words n)) h e = absurd h
quiet traced turns a f (stopped b g (expr x)) h e = absurd h
quiet traced turns a f (stopped b g (network x)) h e = absurd h
quiet traced turns a f (stopped b g (report x)) h e = absurd h
quiet traced turns a f (stopped b g (misses arc x)) h e = absurd h
quiet traced turns a f (stopped b g (read w)) h e = absurd h
quiet traced turns a f (stopped b g (long w)) h e = absurd h
quiet traced turns a f (checked b g v u) h e = absurd h
quiet traced turns a f (coded b g listing) h e = absurd h
quiet traced turns a f (routed s b g rows) h e = absurd h
quiet traced turns a f (hopped b g many) h e = absurd h
quiet traced turns a f (judged b g tables j) h e = absurd h
quiet traced turns a f (wedged b v) h e = absurd h
quiet traced turns a f (flooded b g rows journal q) h e = absurd h
quiet traced turns a f (exchanged b g hops journal q) h e = absurd h
quiet traced turns a f (shown b g last) h e = absurd h

-- two quiet runs of one network
pub runs_alike : (traced other : Bool) (turns more : ℕ) (a : PureAlg) (f : PureNetFile) (o p : PureOutcome) → AreMonotone f.net (nets_after f.net f.changes)
    → IsRunAs traced turns a f o → IsRunAs other more a f p → answer_in o ≡ done → answer_in p ≡ done → undelivered o ≡ undelivered p
runs_alike traced other turns more a f o p all h i d e =
    let one = quiet traced turns a f o h d in
    let two = quiet other more a f p i e in
    let same = alike f.net (nets_after f.net f.changes) (new_nodes f.net) (new_nodes f.net) turns more one.past one.last two.past two.last all one.run two.run one.stable two.stable in
    ap undelivered one.is ∙ ap (λ phases. ran a f false phases (still one.last) true) same.0 ∙ ap (λ last. ran a f false (map still two.past) last true) same.1 ∙ sym (ap undelivered two.is)

-- the last phase of a quiet run is on the network after all changes
last_settled : (net : PureNet) (changes : List PureChange) (nodes : List PvState) (turns : ℕ) (past : List PurePhase) (last : PurePhase)
    → RunsFrom nodes net (nets_after net changes) turns past last true → AreStable net (nets_after net changes) past last true → AreSettledRows (after_all net changes) last.rows
last_settled net [] nodes turns [] last r s = s refl
last_settled net [] nodes turns (p ∷ past) last r s = absurd r
last_settled net (c ∷ changes) nodes turns [] last r s = let no : changed net c ∷ nets_after (changed net c) changes ≡ [] = r.2 refl in absurd cc
last_settled net (c ∷ changes) nodes turns (p ∷ past) last r s =
    last_settled (changed net c) changes (map (carried (changed net c)) r.0) (turns - length p.journal) past last r.2 s.1

-- the rows of a quiet run and those of stable
pub stable_alike : (traced : Bool) (turns : ℕ) (a : PureAlg) (f : PureNetFile) (o p : PureOutcome) → IsRunAs traced turns a f o → IsRoutedAs AllStable a f p
    → answer_in o ≡ done → answer_in p ≡ done → rows_in o ≡ rows_in p
stable_alike traced turns a f o (routed s b g rows) h i d e =
    let one = quiet traced turns a f o h d in
    let settled = last_settled f.net f.changes (new_nodes f.net) turns one.past one.last one.run one.stable in
    ap rows_in one.is ∙ settled_once (changed_net f) one.last.rows rows i.3.0 settled i.4.1
stable_alike traced turns a f o (stopped b g (misses arc x)) h i d e = let no : refused (misses arc x) ≡ done = e in absurd cc
stable_alike traced turns a f o (stopped b g memory) h i d e = let no : refused memory ≡ done = e in absurd cc
stable_alike traced turns a f o (stopped b g (words n)) h i d e = absurd i
stable_alike traced turns a f o (stopped b g (expr x)) h i d e = absurd i
stable_alike traced turns a f o (stopped b g (network x)) h i d e = absurd i
stable_alike traced turns a f o (stopped b g (report x)) h i d e = absurd i
stable_alike traced turns a f o (stopped b g (read w)) h i d e = absurd i
stable_alike traced turns a f o (stopped b g (long w)) h i d e = absurd i
stable_alike traced turns a f o (checked b g v u) h i d e = absurd i
stable_alike traced turns a f o (coded b g listing) h i d e = absurd i
stable_alike traced turns a f o (hopped b g many) h i d e = absurd i
stable_alike traced turns a f o (judged b g tables j) h i d e = absurd i
stable_alike traced turns a f o (wedged b v) h i d e = absurd i
stable_alike traced turns a f o (ran b g t past last q) h i d e = absurd i
stable_alike traced turns a f o (flooded b g rows journal q) h i d e = absurd i
stable_alike traced turns a f o (exchanged b g hops journal q) h i d e = absurd i
stable_alike traced turns a f o (shown b g last) h i d e = absurd i

-- what demo comes to where it isn't for want of memory
record Summed (seed nodes : ℕ) (o : PureOutcome) : Type 0 where
  file : PureNetFile
  last : PurePhase
  is : o ≡ shown demo_alg file last
  text : NetText (Generated seed nodes) demo_alg file
  strict : NetHas strict file.net
  settled : AreSettledRows file.net last.rows

summed : (seed nodes : ℕ) (o : PureOutcome) → IsShownAs seed nodes o → answer_in o ≡ done → Summed seed nodes o
summed seed nodes (shown a f last) h e = record { file = f; last = last; is = rw h.0 refl; text = h.1; strict = h.3; settled = h.5 }
summed seed nodes (stopped None None memory) h e = let no : refused memory ≡ done = e in absurd cc
summed seed nodes (stopped None None (words n)) h e = absurd h
summed seed nodes (stopped None None (expr g)) h e = absurd h
summed seed nodes (stopped None None (network g)) h e = absurd h
summed seed nodes (stopped None None (report g)) h e = absurd h
summed seed nodes (stopped None None (misses arc x)) h e = absurd h
summed seed nodes (stopped None None (read w)) h e = absurd h
summed seed nodes (stopped None None (long w)) h e = absurd h
summed seed nodes (stopped (Some a) f r) h e = absurd h
summed seed nodes (stopped None (Some f) r) h e = absurd h
summed seed nodes (checked b f v u) h e = absurd h
summed seed nodes (coded b f listing) h e = absurd h
summed seed nodes (routed s b f rows) h e = absurd h
summed seed nodes (hopped b f many) h e = absurd h
summed seed nodes (judged b f tables j) h e = absurd h
summed seed nodes (wedged b v) h e = absurd h
summed seed nodes (ran b f t past last q) h e = absurd h
summed seed nodes (flooded b f rows journal q) h e = absurd h
summed seed nodes (exchanged b f hops journal q) h e = absurd h

-- two summaries of one generated network
pub summaries_alike : ((text : List ℕ) (a : PureAlg) → HasOneOutcome text a) → ((net : PureNet) → NetHas strict net → NetHas monotone net)
    → (seed nodes : ℕ) (o p : PureOutcome) → IsShownAs seed nodes o → IsShownAs seed nodes p → answer_in o ≡ done → answer_in p ≡ done → undelivered o ≡ undelivered p
summaries_alike law weaker seed nodes o p h i d e =
    let one = summed seed nodes o h d in
    let two = summed seed nodes p i e in
    let file : one.file ≡ two.file = (law (Generated seed nodes) demo_alg).one_network one.file two.file one.text two.text in
    let settled : AreSettledRows two.file.net one.last.rows = subst (λ (f : PureNetFile). AreSettledRows f.net one.last.rows) file one.settled in
    let same = settled_once two.file.net one.last.rows two.last.rows (weaker two.file.net two.strict) settled two.settled in
    ap undelivered one.is ∙ ap (λ f. shown demo_alg f (still one.last)) file ∙ ap (λ rows. shown demo_alg two.file (still_rows rows)) same ∙ sym (ap undelivered two.is)
