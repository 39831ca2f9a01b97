-- What the host's verticles, their handlers that are called once, and their maker mean.
use Rattle.vx_verticle.specs.Played.{Meaning}
use Rattle.vx_kinds.specs.declared.rule.HostRule.{HostRule}
use Rattle.vx_kinds.specs.Rules.{Allows}
use Rattle.vx_kinds.specs.Hosts.{Reacts, Told, Knows, Makes}

abbrev pub host_meaning : Meaning HostRule
host_meaning = record { reacts = Reacts; told = Told; allows = Allows; knows = Knows; makes = Makes }
