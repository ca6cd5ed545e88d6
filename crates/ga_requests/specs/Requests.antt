-- A request in its three parts. The form is that of HTTP's request line (RFC 9112, section 3), but for the target,
-- which may hold spaces, as servers log what clients send; what isn't of that form is a target whole.
use Rattle.std.specs.Prelude.{◌≡◌, ◌≢◌, ℕ, ◌⊎◌, List, [], ◌∷◌, ◌++◌, codes}
use Rattle.ga_base.specs.Bytes.{byte_of}
use Rattle.ga_requests.specs.Tables.{IsMethod, IsProtocol}

-- the byte between the parts
abbrev pub space : ℕ
space = byte_of (codes " ")

-- the text is a known method, a space, a target of at least one byte, a space and a known protocol
pub record IsRequestLine (text method target protocol : List ℕ) : Type 0 where
  pub joined : text ≡ method ++ space ∷ target ++ space ∷ protocol
  pub method_is_known : IsMethod method
  pub target_is_some : target ≢ []
  pub protocol_is_known : IsProtocol protocol

-- the text is no request line, however it is cut
abbrev pub IsNoRequestLine : List ℕ → Type 0
IsNoRequestLine text = (method target protocol : List ℕ) → IsRequestLine text method target protocol → ⊥

-- the text is no request line, and so the target whole, with no method and no protocol
pub record IsTarget (text method target protocol : List ℕ) : Type 0 where
  pub other : IsNoRequestLine text
  pub whole : target ≡ text
  pub no_method : method ≡ []
  pub no_protocol : protocol ≡ []

-- the parts of a text: those of a request line, or else the text as target
abbrev pub HasParts : List ℕ → List ℕ → List ℕ → List ℕ → Type 0
HasParts text method target protocol =
    IsRequestLine text method target protocol ⊎ IsTarget text method target protocol
