-- What words say over told files: one configuration file's words, and one list of settings.
use Rattle.std.proofs.Common.{◌≡◌, ℕ, List, Option, Some, None, Ok, Err, sym, ap, ◌∙◌, subst, inl, inr}
use Rattle.ga_conf.specs.ConfFile.{ConfGives}
use Rattle.ga_ports.specs.Files.{FilesView, told}
use Rattle.ga_words.specs.Joined.{JoinedOf, NamesConf}
use Rattle.ga_words.specs.declared.settings.Settings.{Settings}
use Rattle.ga_one_run.specs.Configured.{ConfIsTold, NameNoConf, SayOver}
use Rattle.ga_run.proofs.Kept.{Laws}

module _ (laws : Laws) (words : List (List ℕ)) where
  -- words name a file or none, and not both
  none-named : (name : List ℕ) → NameNoConf words → NamesConf words (Some name) → ⊥
  none-named name (inl (fault, bad)) names = let clash : Err fault ≡ Ok (Some name) = laws.scan words (Err fault) (Ok (Some name)) bad names in cc
  none-named name (inr none) names = let clash : Ok None ≡ Ok (Some name) = laws.scan words (Ok None) (Ok (Some name)) none names in cc

  one-name : (name other : List ℕ) → NamesConf words (Some name) → NamesConf words (Some other) → name ≡ other
  one-name name other names others = let same : Ok (Some name) ≡ Ok (Some other) = laws.scan words (Ok (Some name)) (Ok (Some other)) names others in cc

  one-text : (contents : Option (List ℕ)) (text other : List ℕ) → contents ≡ Some text → contents ≡ Some other → text ≡ other
  one-text contents text other is also = let same : Some text ≡ Some other = sym is ∙ also in cc

  -- the words of the file that they name are one list
  pub one-told : (files : FilesView) (conf other : List (List ℕ)) → ConfIsTold words files conf → ConfIsTold words files other → conf ≡ other
  one-told files conf other (inl (none, is)) (inl (also, is')) = is ∙ sym is'
  one-told files conf other (inl (none, is)) (inr (name, names, (text, in_file, gives))) = absurd (none-named name none names)
  one-told files conf other (inr (name, names, (text, in_file, gives))) (inl (none, is)) = absurd (none-named name none names)
  one-told files conf other (inr (name, names, (text, in_file, gives))) (inr (name', names', (text', in_file', gives'))) =
      let same-file = ap (λ (n : List ℕ). told n files.contents) (one-name name name' names names') in
      let same : text ≡ text' = one-text (told name files.contents) text text' in_file (same-file ∙ in_file') in
      laws.conf text conf other gives (subst (λ (t : List ℕ). ConfGives t other) (sym same) gives')

  -- what they say, they say after the words of that file
  pub joined-over : (files : FilesView) (conf : List (List ℕ)) → ConfIsTold words files conf → (s : Settings) → SayOver words files (Ok s) → JoinedOf conf words (Ok s)
  joined-over files conf is s (other, also, joined) = subst (λ (c : List (List ℕ)). JoinedOf c words (Ok s)) (one-told files other conf also is) joined

  -- and these are one list of settings
  pub one-over : (files : FilesView) (s t : Settings) → SayOver words files (Ok s) → SayOver words files (Ok t) → t ≡ s
  one-over files s t (conf, is, joined) other =
      let same : Ok t ≡ Ok s = laws.words conf words (Ok t) (Ok s) (joined-over files conf is t other) joined in cc
