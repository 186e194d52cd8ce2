-- Kinds of tokens. A byte by itself is its own kind; a word has a kind of its own in the list of words (`kinds_are`).
use Rattle.std.specs.Prelude.{◌∷◌, ◌++◌, ◌≡◌}
use Rattle.common.specs.Words.{[], map, refl}
use Rattle.words.specs.declared.kinds.Kind.{Kind}
use Rattle.words.specs.Letters.{letters, words_by, same}
use Rattle.words.specs.Words.{listed, rank, kinds, kind_of}

-- the text's end, and a NUMBER
abbrev pub ENDED : Kind
ENDED = Kind.Ended

abbrev pub NUMBER : Kind
NUMBER = Kind.Number

-- `=>` `+=>` `->` `->>` `<->` `::` `..`
abbrev pub BECOMES : Kind
BECOMES = Kind.Becomes

abbrev pub ADDS : Kind
ADDS = Kind.Adds

abbrev pub ARROW : Kind
ARROW = Kind.Arrow

abbrev pub DELAYING : Kind
DELAYING = Kind.Delaying

abbrev pub BOTH_WAYS : Kind
BOTH_WAYS = Kind.BothWays

abbrev pub SCOPE : Kind
SCOPE = Kind.Scope

abbrev pub DOTS : Kind
DOTS = Kind.Dots

-- single bytes; an ANNEX is the A of the plain text
abbrev pub COLON : Kind
COLON = Kind.Sign 0x3a

abbrev pub SEMICOLON : Kind
SEMICOLON = Kind.Sign 0x3b

abbrev pub COMMA : Kind
COMMA = Kind.Sign 0x2c

abbrev pub DOT : Kind
DOT = Kind.Sign 0x2e

abbrev pub OPEN_PAREN : Kind
OPEN_PAREN = Kind.Sign 0x28

abbrev pub CLOSE_PAREN : Kind
CLOSE_PAREN = Kind.Sign 0x29

abbrev pub OPEN_BRACKET : Kind
OPEN_BRACKET = Kind.Sign 0x5b

abbrev pub CLOSE_BRACKET : Kind
CLOSE_BRACKET = Kind.Sign 0x5d

abbrev pub OPEN_BRACE : Kind
OPEN_BRACE = Kind.Sign 0x7b

abbrev pub CLOSE_BRACE : Kind
CLOSE_BRACE = Kind.Sign 0x7d

abbrev pub ANNEXED : Kind
ANNEXED = Kind.Sign 0x41

-- words that the rules know
abbrev pub ABSTRACT : Kind
ABSTRACT = Kind.Abstract

abbrev pub ACCESS : Kind
ACCESS = Kind.Access

abbrev pub ANNEX : Kind
ANNEX = Kind.Annex

abbrev pub APPLIES : Kind
APPLIES = Kind.Applies

abbrev pub BUS : Kind
BUS = Kind.Bus

abbrev pub CALLS : Kind
CALLS = Kind.Calls

abbrev pub CONNECTIONS : Kind
CONNECTIONS = Kind.Connections

abbrev pub DATA : Kind
DATA = Kind.Data

abbrev pub DEVICE : Kind
DEVICE = Kind.Device

abbrev pub END : Kind
END = Kind.End

abbrev pub EVENT : Kind
EVENT = Kind.Event

abbrev pub EXTENDS : Kind
EXTENDS = Kind.Extends

abbrev pub FEATURE : Kind
FEATURE = Kind.Feature

abbrev pub FEATURES : Kind
FEATURES = Kind.Features

abbrev pub FLOWS : Kind
FLOWS = Kind.Flows

abbrev pub GROUP : Kind
GROUP = Kind.Group

abbrev pub IMPLEMENTATION : Kind
IMPLEMENTATION = Kind.Implementation

abbrev pub IN : Kind
IN = Kind.In

abbrev pub MEMORY : Kind
MEMORY = Kind.Memory

abbrev pub MODES : Kind
MODES = Kind.Modes

abbrev pub NONE : Kind
NONE = Kind.None

abbrev pub OUT : Kind
OUT = Kind.Out

abbrev pub PACKAGE : Kind
PACKAGE = Kind.Package

abbrev pub PARAMETER : Kind
PARAMETER = Kind.Parameter

abbrev pub PORT : Kind
PORT = Kind.Port

abbrev pub PRIVATE : Kind
PRIVATE = Kind.Private

abbrev pub PROCESS : Kind
PROCESS = Kind.Process

abbrev pub PROCESSOR : Kind
PROCESSOR = Kind.Processor

abbrev pub PROPERTIES : Kind
PROPERTIES = Kind.Properties

abbrev pub PROPERTY : Kind
PROPERTY = Kind.Property

abbrev pub PROTOTYPES : Kind
PROTOTYPES = Kind.Prototypes

abbrev pub PROVIDES : Kind
PROVIDES = Kind.Provides

abbrev pub PUBLIC : Kind
PUBLIC = Kind.Public

abbrev pub REQUIRES : Kind
REQUIRES = Kind.Requires

abbrev pub SUBCOMPONENTS : Kind
SUBCOMPONENTS = Kind.Subcomponents

abbrev pub SUBPROGRAM : Kind
SUBPROGRAM = Kind.Subprogram

abbrev pub SYSTEM : Kind
SYSTEM = Kind.System

abbrev pub THREAD : Kind
THREAD = Kind.Thread

abbrev pub VIRTUAL : Kind
VIRTUAL = Kind.Virtual

abbrev pub WITH : Kind
WITH = Kind.With

abbrev pub PERIOD : Kind
PERIOD = Kind.Period

abbrev pub DEADLINE : Kind
DEADLINE = Kind.Deadline

abbrev pub DISPATCH_PROTOCOL : Kind
DISPATCH_PROTOCOL = Kind.DispatchProtocol

abbrev pub DISPATCH_OFFSET : Kind
DISPATCH_OFFSET = Kind.DispatchOffset

abbrev pub PRIORITY : Kind
PRIORITY = Kind.Priority

abbrev pub TIMING : Kind
TIMING = Kind.Timing

abbrev pub TIMING_PROPERTIES : Kind
TIMING_PROPERTIES = Kind.TimingProperties

abbrev pub THREAD_PROPERTIES : Kind
THREAD_PROPERTIES = Kind.ThreadProperties

abbrev pub COMMUNICATION_PROPERTIES : Kind
COMMUNICATION_PROPERTIES = Kind.CommunicationProperties

abbrev pub MS : Kind
MS = Kind.Ms

abbrev pub SEC : Kind
SEC = Kind.Sec

abbrev pub PERIODIC : Kind
PERIODIC = Kind.Periodic

abbrev pub DELAYED : Kind
DELAYED = Kind.Delayed

-- each of them is the kind of its word
pub kinds_are :
    map kind_of
    (words_by [] (letters "abstract access annex applies bus calls connections data device end event extends feature features flows group "
    ++ (letters "implementation in memory modes none out package parameter port private process processor properties property prototypes "
    ++ (letters "provides public requires subcomponents subprogram system thread virtual with period deadline dispatch_protocol "
    ++ (letters "dispatch_offset priority timing timing_properties thread_properties communication_properties ms sec periodic delayed")))))
    ≡ ABSTRACT ∷ ACCESS ∷ ANNEX ∷ APPLIES ∷ BUS ∷ CALLS ∷ CONNECTIONS ∷ DATA ∷ DEVICE ∷ END ∷ EVENT ∷ EXTENDS ∷ FEATURE ∷
    FEATURES ∷ FLOWS ∷ GROUP ∷ IMPLEMENTATION ∷ IN ∷ MEMORY ∷ MODES ∷ NONE ∷ OUT ∷ PACKAGE ∷ PARAMETER ∷ PORT ∷ PRIVATE ∷
    PROCESS ∷ PROCESSOR ∷ PROPERTIES ∷ PROPERTY ∷ PROTOTYPES ∷ PROVIDES ∷ PUBLIC ∷ REQUIRES ∷ SUBCOMPONENTS ∷ SUBPROGRAM ∷
    SYSTEM ∷ THREAD ∷ VIRTUAL ∷ WITH ∷ PERIOD ∷ DEADLINE ∷ DISPATCH_PROTOCOL ∷ DISPATCH_OFFSET ∷ PRIORITY ∷ TIMING ∷
    TIMING_PROPERTIES ∷ THREAD_PROPERTIES ∷ COMMUNICATION_PROPERTIES ∷ MS ∷ SEC ∷ PERIODIC ∷ DELAYED ∷ []
unfolding words_by same listed rank kinds kind_of
kinds_are = refl
