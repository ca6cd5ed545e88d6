-- The format texts that have a name.
use Rattle.std.specs.Prelude.{◌≡◌, ◌≢◌, ℕ, List, codes, ◌++◌}

-- the common log format of web servers
abbrev pub common : List ℕ
common = codes "%h %^[%d:%t %^] \"%r\" %s %b"

-- the combined one has the referrer and the agent after it
abbrev pub combined : List ℕ
combined = common ++ codes " \"%R\" \"%u\""

-- with the virtual host and its port in front
abbrev pub with_host : List ℕ → List ℕ
with_host format = codes "%v:%^ " ++ format

-- the text that a word represents: the four names, byte for byte, and any other word for itself
pub record StandsFor (word text : List ℕ) : Type 0 where
  pub is_common : word ≡ codes "COMMON" → text ≡ common
  pub is_combined : word ≡ codes "COMBINED" → text ≡ combined
  pub is_vcommon : word ≡ codes "VCOMMON" → text ≡ with_host common
  pub is_vcombined : word ≡ codes "VCOMBINED" → text ≡ with_host combined
  pub is_other : word ≢ codes "COMMON" → word ≢ codes "COMBINED" → word ≢ codes "VCOMMON" → word ≢ codes "VCOMBINED" → text ≡ word
