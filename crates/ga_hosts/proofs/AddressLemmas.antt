-- An address of the standard library is spelled by the same texts as its number.
use Rattle.std.proofs.Common.{◌≡◌, ◌↔◌, ℕ, Option, Some, None, IsNone, IsTrue, is_some, tests, Bool, Result, Ok, Err, List, [], ◌∷◌, length, refl, sym, ap, ◌∙◌, subst, inl, inr, ◌⊎◌, length-append, rules}
use Rattle.std.proofs.lemmas.List.{length-replicate}
use Rattle.std.specs.declared.net.ip_addr.IpAddr.{IpAddr}
use Rattle.std.specs.declared.net.ip_addr.IpAddr.TheVariants as Ip
use Rattle.std.specs.declared.net.ipv4_addr.Ipv4Addr.{Ipv4Addr}
use Rattle.std.specs.declared.net.ipv6_addr.Ipv6Addr.{Ipv6Addr}
use Rattle.std.specs.Net.Addr.{ipv4_bits, ipv6_bits, ipv4_octets, ipv6_segments}
use Rattle.std.specs.Net.Grammar.{Parses, IsDotted, IsColonHex, IsIpText}
use Rattle.std.proofs.lemmas.Option.{none-some, same_Some}
use Rattle.std.proofs.NetLemmas.Theorems.{IsIpText_unique}
use Rattle.ga_hosts.specs.declared.address.Address.{Address}
use Rattle.ga_hosts.specs.declared.address.Address.TheVariants.{V4, V6}
use Rattle.ga_hosts.specs.Addresses.{Spells, IsAddress, SpellsV4, SpellsV6, IsWritten, IsShortened}
use Rattle.ga_hosts.specs.Steps.{numbered}
use Rattle.ga_hosts.proofs.GrammarLemmas.{quad-dotted, dotted-quad, form-colon_hex, colon_hex-form}
use Rattle.ga_hosts.proofs.NumberLemmas.{number_in-four, number_in-eight}

-- an IPv6 text has eight groups
pub form-eight : (text groups : List ℕ) → IsWritten text groups ⊎ IsShortened text groups → length groups ≡ 8
form-eight text groups (inl h) = h.eight
form-eight text groups (inr h) = rw h.groups_are (simp (length-append, length-replicate) h.eight)

spells-v4 : (text : List ℕ) (parts : Ipv4Addr) → IsDotted text (ipv4_octets parts) → SpellsV4 text (ipv4_bits parts)
unfolding ipv4_bits
spells-v4 text parts h =
    record {
      a = h.a;
      b = h.b;
      c = h.c;
      d = h.d;
      quad = dotted-quad text _ h;
      number_is = rw h.value (sym (number_in-four h.a h.b h.c h.d));
    }

spells-v6 : (text : List ℕ) (groups : Ipv6Addr) → IsColonHex text (ipv6_segments groups) → SpellsV6 text (ipv6_bits groups)
unfolding ipv6_bits
spells-v6 text groups h =
    let form = colon_hex-form text (ipv6_segments groups) h in
    record {
      groups = ipv6_segments groups;
      form = form;
      number_is = sym (number_in-eight (ipv6_segments groups) (form-eight text (ipv6_segments groups) form));
    }

-- what spells an address of the standard library spells its number
pub spells-numbered : (text : List ℕ) (ip : IpAddr) → IsIpText text ip → Spells text (numbered ip)
spells-numbered text (Ip.V4 parts) h = spells-v4 text parts h
spells-numbered text (Ip.V6 groups) h = spells-v6 text groups h

v4-of : (text : List ℕ) (number : ℕ) → SpellsV4 text number → (ip : IpAddr) × IsIpText text ip × (numbered ip ≡ V4 number)
unfolding ipv4_bits
v4-of text number h =
    let parts : Ipv4Addr = record { octets = h.a ∷ h.b ∷ h.c ∷ h.d ∷ [] } in
    (Ip.V4 parts, quad-dotted text h.a h.b h.c h.d h.quad, ap V4 (sym (h.number_is ∙ number_in-four h.a h.b h.c h.d)))

v6-of : (text : List ℕ) (number : ℕ) → SpellsV6 text number → (ip : IpAddr) × IsIpText text ip × (numbered ip ≡ V6 number)
unfolding ipv6_bits
v6-of text number h =
    let groups : Ipv6Addr = record { segments = h.groups } in
    (Ip.V6 groups, form-colon_hex text h.groups h.form, ap V6 (sym (h.number_is ∙ number_in-eight h.groups (form-eight text h.groups h.form))))

-- what spells a number spells an address of the standard library that has it
pub numbered-spells : (text : List ℕ) (address : Address) → Spells text address → (ip : IpAddr) × IsIpText text ip × (numbered ip ≡ address)
numbered-spells text (V4 number) h = v4-of text number h
numbered-spells text (V6 number) h = v6-of text number h

-- a text spells one address at most
pub one_address : (text : List ℕ) (address other : Address) → Spells text address → Spells text other → address ≡ other
one_address text address other h k =
    let (ip, is, has) = numbered-spells text address h in
    let (ip', is', has') = numbered-spells text other k in
    sym has ∙ ap numbered (IsIpText_unique text ip ip' is is') ∙ has'

-- a text and what is given for it: its address, and nothing where it spells none
abbrev pub Answers : List ℕ → Option Address → Type 0
Answers text None = (address : Address) → Spells text address → ⊥
Answers text (Some address) = Spells text address

-- what is given for what the parser of the standard library gave
abbrev pub Numbered : {E : Type 0} → Result IpAddr E → Option Address → Type 0
Numbered (Ok ip) given = given ≡ Some (numbered ip)
Numbered (Err e) given = given ≡ None

pub numbered-answers : {E : Type 0} (text : List ℕ) (parsed : Result IpAddr E) (given : Option Address) → Parses IsIpText text parsed → Numbered parsed given → Answers text given
numbered-answers text (Ok ip) given is has = subst (Answers text) (sym has) (spells-numbered text ip is)
numbered-answers text (Err e) given none has =
    subst (Answers text) (sym has) λ address h.
    let (ip, is, _) = numbered-spells text address h in
    none ip is

pub answers-found : (text : List ℕ) (given : Option Address) → Answers text given → (address : Address) → (given ≡ Some address) ↔ Spells text address
answers-found text None h address = (λ e. absurd (none-some address e), λ is. absurd (h address is))
answers-found text (Some own) h address = (λ e. subst (Spells text) (same_Some own address e) h, λ is. ap Some (one_address text own address h is))

pub answers-none : (text : List ℕ) (given : Option Address) → Answers text given → IsNone given ↔ ((address : Address) → Spells text address → ⊥)
answers-none text None h = (λ _. h, λ _. refl)
answers-none text (Some own) h = (λ none. absurd (search rules), λ none. absurd (none own h))

-- a text spells an address where one is found for it
pub found-address : (text : List ℕ) (given : Option Address) (is : Bool) → ((address : Address) → (given ≡ Some address) ↔ Spells text address) → is ≡ is_some given → IsTrue is ↔ IsAddress text
found-address text None is found same = (λ yes. absurd (search (rules, tests)), λ h. absurd (none-some h.0 ((found h.0).1 h.1)))
found-address text (Some address) is found same = (λ yes. (address, (found address).0 refl), λ h. same)
