-- What each refusal means: its number and its place. Every promise that speaks of a refusal speaks through these two.
use Rattle.std.specs.Prelude.{ℕ}
use Rattle.refusal.specs.declared.Refusal.{Refusal}
use Rattle.refusal.specs.declared.Refusal.TheVariants.{PastEnd, WrongTag, WrongLength, BandOutside, BadLink, TooManyDemands, BadRoute, IdentUsed, BadWidth, BufferShort, TooManyToSearch, NotAnOrder, NoStart, UnknownIdent, IdentSeen, NoRow, EndAbove, Clash, NoBlock, FileTooLong, UnknownRate, GroupsOutside, NoCertificate}

-- the number of the fault, 1 to 21, 24 and 30
abbrev pub number_of : Refusal → ℕ
number_of (PastEnd place) = 1
number_of (WrongTag place) = 2
number_of (WrongLength place) = 3
number_of (BandOutside place) = 4
number_of (BadLink place) = 5
number_of (TooManyDemands place) = 6
number_of (BadRoute place) = 7
number_of (IdentUsed place) = 8
number_of (BadWidth place) = 9
number_of (BufferShort place) = 10
number_of (TooManyToSearch place) = 11
number_of (NotAnOrder place) = 12
number_of (NoStart place) = 13
number_of (UnknownIdent place) = 14
number_of (IdentSeen place) = 15
number_of (NoRow place) = 16
number_of (EndAbove place) = 17
number_of (Clash place) = 18
number_of (NoBlock place) = 19
number_of (FileTooLong place) = 20
number_of (UnknownRate place) = 21
number_of (GroupsOutside place) = 24
number_of (NoCertificate place) = 30

-- the place where it was found
abbrev pub place_of : Refusal → ℕ
place_of (PastEnd place) = place
place_of (WrongTag place) = place
place_of (WrongLength place) = place
place_of (BandOutside place) = place
place_of (BadLink place) = place
place_of (TooManyDemands place) = place
place_of (BadRoute place) = place
place_of (IdentUsed place) = place
place_of (BadWidth place) = place
place_of (BufferShort place) = place
place_of (TooManyToSearch place) = place
place_of (NotAnOrder place) = place
place_of (NoStart place) = place
place_of (UnknownIdent place) = place
place_of (IdentSeen place) = place
place_of (NoRow place) = place
place_of (EndAbove place) = place
place_of (Clash place) = place
place_of (NoBlock place) = place
place_of (FileTooLong place) = place
place_of (UnknownRate place) = place
place_of (GroupsOutside place) = place
place_of (NoCertificate place) = place
