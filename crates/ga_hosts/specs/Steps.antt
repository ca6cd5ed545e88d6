-- What the steps promise to one another, and what only proofs use: how the text of a range is cut at its first dash, into
-- what stands before it and what follows it, and the number of an address of the standard library, which parses texts.
use Rattle.std.specs.Prelude.{◌≡◌, ◌==◌, ℕ, not, Option, Some, None, List, ◌++◌, codes}
use Rattle.std.specs.List.{AllPass}
use Rattle.std.specs.declared.net.ip_addr.IpAddr.{IpAddr}
use Rattle.std.specs.declared.net.ip_addr.IpAddr.TheVariants as Ip
use Rattle.std.specs.Net.Addr.{ipv4_bits, ipv6_bits}
use Rattle.ga_base.specs.Bytes.{byte_of}
use Rattle.ga_hosts.specs.declared.address.Address.{Address}
use Rattle.ga_hosts.specs.declared.address.Address.TheVariants.{V4, V6}

-- the number that the address's bits make, the first the highest
abbrev pub numbered : IpAddr → Address
numbered (Ip.V4 parts) = V4 (ipv4_bits parts)
numbered (Ip.V6 groups) = V6 (ipv6_bits groups)

-- no byte of the text is a dash
abbrev pub HasNoDash : List ℕ → Type 0
HasNoDash text = AllPass (λ byte. not (byte == byte_of (codes "-"))) text

-- a text without a dash stays whole
abbrev pub IsCut : List ℕ → List ℕ → Option (List ℕ) → Type 0
IsCut text first None = (text ≡ first) × HasNoDash first
IsCut text first (Some second) = (text ≡ first ++ codes "-" ++ second) × HasNoDash first
