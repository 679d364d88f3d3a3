-- What the audit of a journal answers.
use Rattle.std.specs.Prelude.{◌≡◌, List}
use Rattle.meta_base.specs.declared.ids.Delivery.{Delivery}
use Rattle.net_graph.specs.Nets.{PureNet}
use Rattle.node_core.specs.declared.config.Replayed.{Replayed}
use Rattle.node_core.specs.declared.config.Replayed.TheVariants.{Reached, Broken}
use Rattle.node_core.specs.Auditing.{IsBrokenAt, IsReached}
use Rattle.node_core.specs.Kinds.{Kind}
use Rattle.node_core.specs.MachineOf.{net_of, machine_of}
use Rattle.node_core.specs.Running.{IsRunning}

-- the machine that the whole journal leads to, or the first place at which it breaks
abbrev pub IsAudit : {N M : Type 0} {g : _} {S W : Type 0} → (N → S) → (M → W) → Kind S W → PureNet → List S → List Delivery → Replayed N M g → Type 0
IsAudit state note k net nodes journal (Reached config) =
    (net_of config ≡ net) × IsReached k net nodes journal (machine_of state note config) × IsRunning k net (machine_of state note config)
IsAudit state note k net nodes journal (Broken place) = IsBrokenAt k net nodes journal place
