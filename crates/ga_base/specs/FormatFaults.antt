-- How the fault of a format is told.
use Rattle.std.specs.Prelude.{ℕ, List, ◌++◌, Option, Some, None, codes, decimal}
use Rattle.ga_base.specs.declared.formats.FormatFault.{FormatFault}
use Rattle.ga_base.specs.declared.formats.FormatFault.TheVariants.{UnknownSpecifier, Repeated, NoDelimiter, Missing, BadDirective, NotJson, BadShape, Leaf, NoMemory}
use Rattle.ga_base.specs.declared.formats.LeafFault.{LeafFault}
use Rattle.ga_base.specs.declared.formats.LeafFault.TheVariants as kinds
use Rattle.ga_base.specs.declared.formats.Needed.TheVariants.{Host, Date, Request}

-- the leaf of a JSON format that it is in, from 0
abbrev pub fault_leaf : FormatFault → Option ℕ
fault_leaf (UnknownSpecifier at) = None
fault_leaf (Repeated at) = None
fault_leaf (NoDelimiter at) = None
fault_leaf (Missing field) = None
fault_leaf (BadDirective at) = None
fault_leaf NotJson = None
fault_leaf (BadShape leaf) = Some leaf
fault_leaf (Leaf leaf kind at) = Some leaf
fault_leaf NoMemory = None

-- where it is, as a byte of the format's text, or of the leaf's, from 0; parts that are missing have no place
abbrev pub fault_place : FormatFault → Option ℕ
fault_place (UnknownSpecifier at) = Some at
fault_place (Repeated at) = Some at
fault_place (NoDelimiter at) = Some at
fault_place (Missing field) = None
fault_place (BadDirective at) = Some at
fault_place NotJson = None
fault_place (BadShape leaf) = None
fault_place (Leaf leaf kind at) = Some at
fault_place NoMemory = None

-- what is wrong with a leaf
abbrev pub kind_text : LeafFault → List ℕ
kind_text kinds.Unknown = codes "unknown specifier"
kind_text kinds.Repeated = codes "repeated"
kind_text kinds.NoDelimiter = codes "no delimiter"

-- what it is
abbrev pub fault_text : FormatFault → List ℕ
fault_text (UnknownSpecifier at) = codes "unknown specifier"
fault_text (Repeated at) = codes "repeated"
fault_text (NoDelimiter at) = codes "no delimiter"
fault_text (Missing Host) = codes "no host"
fault_text (Missing Date) = codes "no date"
fault_text (Missing Request) = codes "no request"
fault_text (BadDirective at) = codes "bad directive"
fault_text NotJson = codes "not JSON"
fault_text (BadShape leaf) = codes "bad shape"
fault_text (Leaf leaf kind at) = kind_text kind
fault_text NoMemory = codes "no memory"

-- the leaf and the place before it, where it has them
abbrev pub placed : Option ℕ → Option ℕ → List ℕ → List ℕ
placed None None text = text
placed None (Some at) text = codes "byte " ++ decimal at ++ codes ": " ++ text
placed (Some leaf) None text = codes "leaf " ++ decimal leaf ++ codes ": " ++ text
placed (Some leaf) (Some at) text = codes "leaf " ++ decimal leaf ++ codes ", byte " ++ decimal at ++ codes ": " ++ text

abbrev pub fault_line : FormatFault → List ℕ
fault_line fault = placed (fault_leaf fault) (fault_place fault) (fault_text fault)
