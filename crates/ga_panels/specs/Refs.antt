-- What the borrowed forms of a key and of a record's facts tell.
use Rattle.std.specs.Prelude.{Bool}
use Rattle.std.specs.Option.{option_map}
use Rattle.ga_agents.specs.Classes.{agent_of}
use Rattle.ga_agents.specs.declared.agent.Class.{Class}
use Rattle.ga_base.specs.declared.key.Key.{Key}
use Rattle.ga_panels.specs.Facts.{Facts}
use Rattle.ga_panels.specs.declared.key_ref.KeyRef.{KeyRef}
use Rattle.ga_requests.specs.declared.referrers.Referral.{Referral}

-- the key whose values a borrowed one has
abbrev pub key_of : KeyRef → Key
key_of k = record {
  panel = k.panel;
  date = k.date;
  parent = k.parent.now;
  label = k.label.now;
  method = k.method.now;
  protocol = k.protocol.now;
}

-- the facts that a class, a referral and a test tell
abbrev pub facts_in : Class → Referral → Bool → Facts
facts_in class referral is_static = record {
  agent = agent_of class;
  site = option_map (λ site. site.now) referral.site;
  phrase = referral.phrase;
  is_static = is_static;
}
