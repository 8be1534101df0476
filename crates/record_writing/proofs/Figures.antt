-- Document 01's two records, both ways, and each cause of reading on records that differ from them in one place.
use Prim.Native.Nat.{ℕ}
use mathlib.Core.Path.{◌≡◌, refl}
use mathlib.Core.List.{List, [], ◌∷◌}
use lib.IntN.{negsuc}
use Rattle.lists.specs.Fold.{sum}
use Rattle.lists.specs.Table.{table}
use Rattle.model.specs.Mesh.{mesh_of}
use Rattle.model.specs.Causes.{accepted, refused, fine, ◌and_then◌, need, each, counts_within}
use Rattle.record_bits.specs.Field.{bit_at, bits_at}
use Rattle.record_bits.specs.Layout.{spelled, bits_of, width_of, bytes_for, octet, packed, rows}
use Rattle.record_sections.specs.Sections.{those, row, fields_of, record_of}
use Rattle.record_layouts.specs.Layouts.{value_bits, mass_bits, release_bits, mesh_record, field_record, step_record, mesh_length, field_length, step_length}
use Rattle.record_heads.specs.Heads.{mesh_head_verdict, field_head_verdict, step_head_verdict}
use Rattle.record_layouts.specs.declared.Width.TheVariants.{Narrow, Wide}
use Rattle.record_zeros.specs.Zeros.{zero_bit_good, minus_zero}
use Rattle.record_reading.specs.Reading.{volumes_in, masses_in, fluxes_in, outsides_in, releases_in, mesh_bit_good, step_bit_good, mesh_body_verdict, field_body_verdict, step_body_verdict, mesh_read, field_read, step_read}
use Rattle.record_writing.specs.Writing.{releases_fit}

-- the definitions that a figure computes
everything : Unit {0}
unfolding sum table ◌and_then◌ need each counts_within bit_at bits_at spelled bits_of width_of bytes_for octet packed rows those row fields_of record_of
    mesh_record field_record step_record mesh_length field_length step_length volumes_in masses_in fluxes_in outsides_in value_bits mass_bits release_bits releases_in
    zero_bit_good minus_zero
    mesh_bit_good step_bit_good mesh_head_verdict field_head_verdict step_head_verdict mesh_body_verdict field_body_verdict step_body_verdict mesh_read field_read step_read
everything = tt

-- one cell of V 100 and no faces, and its field with m = 99
abbrev mesh : List ℕ
mesh = 0x10 ∷ 0x01 ∷ 0x00 ∷ 0x00 ∷ 0x06 ∷ 0x40 ∷ []

abbrev field : List ℕ
field = 0x20 ∷ 0x01 ∷ 0x00 ∷ 0x00 ∷ 0x00 ∷ 0x63 ∷ []

pub mesh_written : mesh_record 1 (mesh_of 1 0 (100 ∷ []) [] [] [] []) ≡ mesh
unfolding everything
mesh_written = refl

pub mesh-is-read : mesh_read 1023 2046 mesh 1 0 0 0 0 ≡ accepted (record { cells = 1; faces = 0; width = Narrow })
unfolding everything
mesh-is-read = refl

pub volume-is-read : volumes_in mesh ≡ 100 ∷ []
unfolding everything
volume-is-read = refl

pub field_written : field_record 2 1 (99 ∷ []) ≡ field
unfolding everything
field_written = refl

pub field-is-read : field_read Narrow 1 field 1 ≡ fine
unfolding everything
field-is-read = refl

pub mass-is-read : masses_in field 1 ≡ 99 ∷ []
unfolding everything
mass-is-read = refl

-- one cell and one face at the rim with U −50 and outside value 1000
abbrev step : List ℕ
step = 0x30 ∷ 0x00 ∷ 0x80 ∷ 0x00 ∷ 0x81 ∷ 0x90 ∷ 0x01 ∷ 0xf4 ∷ 0x00 ∷ []

pub step_written : step_record 3 1 1 (4095 ∷ []) (negsuc 49 ∷ []) (1000 ∷ []) (0 ∷ []) ≡ step
unfolding everything
step_written = refl

pub step-is-read : step_read Narrow 1 1 (4095 ∷ []) step 1 1 1 ≡ accepted 3
unfolding everything
step-is-read = refl

pub flux-is-read : fluxes_in step 1 ≡ negsuc 49 ∷ []
unfolding everything
flux-is-read = refl

pub outside-is-read : outsides_in step 1 (4095 ∷ []) ≡ 1000 ∷ []
unfolding everything
outside-is-read = refl

pub no-release-is-read : releases_in step 1 1 (4095 ∷ []) ≡ 0 ∷ []
unfolding everything
no-release-is-read = refl

-- document 02, S-6: the same of kind 4 with a release of 5, which begins at once after the outside value
abbrev outfall : List ℕ
outfall = 0x40 ∷ 0x00 ∷ 0x80 ∷ 0x00 ∷ 0x81 ∷ 0x90 ∷ 0x01 ∷ 0xf4 ∷ 0x00 ∷ 0x00 ∷ 0x00 ∷ 0x02 ∷ 0x80 ∷ []

pub outfall-written : step_record 4 1 1 (4095 ∷ []) (negsuc 49 ∷ []) (1000 ∷ []) (5 ∷ []) ≡ outfall
unfolding everything
outfall-written = refl

pub outfall-is-read : step_read Narrow 1 1 (4095 ∷ []) outfall 1 1 1 ≡ accepted 4
unfolding everything
outfall-is-read = refl

pub release-is-read : releases_in outfall 1 1 (4095 ∷ []) ≡ 5 ∷ []
unfolding everything
release-is-read = refl

-- document 02, S-10: kinds 5 to 8 at the ceilings, with a release that kind 4 does not hold
abbrev wide-mesh : List ℕ
wide-mesh = 0x50 ∷ 0x01 ∷ 0x00 ∷ 0x00 ∷ 0xff ∷ 0xff ∷ []

abbrev wide-field : List ℕ
wide-field = 0x60 ∷ 0x01 ∷ 0x0f ∷ 0x42 ∷ 0x30 ∷ 0xbd ∷ 0xc0 ∷ []

abbrev wide_step : List ℕ
wide_step = 0x70 ∷ 0x00 ∷ 0x80 ∷ 0x00 ∷ 0xff ∷ 0xff ∷ 0x80 ∷ 0x1f ∷ 0x40 ∷ []

abbrev wide-outfall : List ℕ
wide-outfall = 0x80 ∷ 0x00 ∷ 0x80 ∷ 0x00 ∷ 0xff ∷ 0xff ∷ 0x80 ∷ 0x1f ∷ 0x40 ∷ 0x08 ∷ 0x00 ∷ 0x00 ∷ 0x00 ∷ 0x00 ∷ []

pub wide-mesh-written : mesh_record 5 (mesh_of 1 0 (65535 ∷ []) [] [] [] []) ≡ wide-mesh
unfolding everything
wide-mesh-written = refl

pub wide-mesh-is-read : mesh_read 1023 2046 wide-mesh 1 0 0 0 0 ≡ accepted (record { cells = 1; faces = 0; width = Wide })
unfolding everything
wide-mesh-is-read = refl

pub wide-volume-is-read : volumes_in wide-mesh ≡ 65535 ∷ []
unfolding everything
wide-volume-is-read = refl

pub wide-field-written : field_record 6 1 (65535000000 ∷ []) ≡ wide-field
unfolding everything
wide-field-written = refl

pub wide-field-is-read : field_read Wide 1 wide-field 1 ≡ fine
unfolding everything
wide-field-is-read = refl

pub wide-mass-is-read : masses_in wide-field 1 ≡ 65535000000 ∷ []
unfolding everything
wide-mass-is-read = refl

pub wide-step-written : step_record 7 1 1 (4095 ∷ []) (negsuc 65534 ∷ []) (1000 ∷ []) (0 ∷ []) ≡ wide_step
unfolding everything
wide-step-written = refl

pub wide-step-is-read : step_read Wide 1 1 (4095 ∷ []) wide_step 1 1 1 ≡ accepted 7
unfolding everything
wide-step-is-read = refl

pub wide-outfall-written : step_record 8 1 1 (4095 ∷ []) (negsuc 65534 ∷ []) (1000 ∷ []) (4294967296 ∷ []) ≡ wide-outfall
unfolding everything
wide-outfall-written = refl

pub wide-outfall-is-read : step_read Wide 1 1 (4095 ∷ []) wide-outfall 1 1 1 ≡ accepted 8
unfolding everything
wide-outfall-is-read = refl

pub wide-release-is-read : releases_in wide-outfall 1 1 (4095 ∷ []) ≡ 4294967296 ∷ []
unfolding everything
wide-release-is-read = refl

-- S-10: a record of the other width is another kind
pub narrow-field-after-wide : field_read Wide 1 field 1 ≡ refused 13 0
unfolding everything
narrow-field-after-wide = refl

pub wide-step-after-narrow : step_read Narrow 1 1 (4095 ∷ []) wide_step 1 1 1 ≡ refused 13 0
unfolding everything
wide-step-after-narrow = refl

-- S-10, 18 of a writer: in kind 7 a release of 1, in kind 8 one of 2^40
pub release-in-wide-water : releases_fit 7 2 (0 ∷ 1 ∷ []) ≡ refused 18 1
unfolding everything
release-in-wide-water = refl

pub largest-wide-release : releases_fit 8 2 (1099511627775 ∷ 1099511627776 ∷ []) ≡ refused 18 1
unfolding everything
largest-wide-release = refl

-- 18 of a writer: in kind 3 a release of 1, in kind 4 one of 2^32
pub release-in-water : releases_fit 3 2 (0 ∷ 1 ∷ []) ≡ refused 18 1
unfolding everything
release-in-water = refl

pub largest-release : releases_fit 4 2 (4294967295 ∷ 4294967296 ∷ []) ≡ refused 18 1
unfolding everything
largest-release = refl

-- 11 before 13: three bytes, whatever they say
pub too_short : mesh_read 1023 2046 (0x20 ∷ 0x01 ∷ 0x00 ∷ []) 1 0 0 0 0 ≡ refused 11 0
unfolding everything
too_short = refl

pub another-kind : mesh_read 1023 2046 (0x20 ∷ 0x01 ∷ 0x00 ∷ 0x00 ∷ 0x06 ∷ 0x40 ∷ []) 1 0 0 0 0 ≡ refused 13 0
unfolding everything
another-kind = refl

pub another-count : field_read Narrow 2 field 2 ≡ refused 13 1
unfolding everything
another-count = refl

-- 1 before the length: no cells, and 8,191 faces
pub no_cells : mesh_read 4095 8190 (0x10 ∷ 0x00 ∷ 0x00 ∷ 0x00 ∷ []) 0 0 0 0 0 ≡ refused 1 0
unfolding everything
no_cells = refl

pub many-faces : mesh_read 9000 9000 (0x10 ∷ 0x01 ∷ 0xff ∷ 0xf8 ∷ []) 1 0 0 0 0 ≡ refused 1 1
unfolding everything
many-faces = refl

-- 11: a byte too few, and one too many
pub a-byte-less : mesh_read 1023 2046 (0x10 ∷ 0x01 ∷ 0x00 ∷ 0x00 ∷ 0x06 ∷ []) 1 0 0 0 0 ≡ refused 11 0
unfolding everything
a-byte-less = refl

pub a-byte-more : mesh_read 1023 2046 (0x10 ∷ 0x01 ∷ 0x00 ∷ 0x00 ∷ 0x06 ∷ 0x40 ∷ 0x00 ∷ []) 1 0 0 0 0 ≡ refused 11 0
unfolding everything
a-byte-more = refl

-- 2 before 12, and the seconds before a step's length
pub no_table : mesh_read 1023 2046 (0x10 ∷ 0x01 ∷ 0x00 ∷ 0x01 ∷ 0x06 ∷ 0x40 ∷ []) 0 0 0 0 0 ≡ refused 2 0
unfolding everything
no_table = refl

pub no-seconds : step_read Narrow 1 1 [] (0x30 ∷ 0x00 ∷ 0x80 ∷ 0x00 ∷ []) 1 1 1 ≡ refused 2 2
unfolding everything
no-seconds = refl

-- S-6: kind 5; 1 before the length, of cells too; and a short table of releases, in kind 3 too
pub kind-five : step_read Narrow 1 0 [] (0x50 ∷ 0x00 ∷ 0x00 ∷ 0x00 ∷ []) 0 0 1 ≡ refused 13 0
unfolding everything
kind-five = refl

pub step-no-cells : step_read Narrow 0 0 [] (0x40 ∷ 0x00 ∷ 0x00 ∷ 0x00 ∷ 0x00 ∷ []) 0 0 0 ≡ refused 1 0
unfolding everything
step-no-cells = refl

pub no-releases : step_read Narrow 1 0 [] (0x30 ∷ 0x00 ∷ 0x00 ∷ 0x00 ∷ []) 0 0 0 ≡ refused 2 14
unfolding everything
no-releases = refl

-- 12: the head's last bit, a bit of the padding, and the minus of a flux of size 0
pub head-bit : mesh_read 1023 2046 (0x10 ∷ 0x01 ∷ 0x00 ∷ 0x01 ∷ 0x06 ∷ 0x41 ∷ []) 1 0 0 0 0 ≡ refused 12 31
unfolding everything
head-bit = refl

pub padding-bit : mesh_read 1023 2046 (0x10 ∷ 0x01 ∷ 0x00 ∷ 0x00 ∷ 0x06 ∷ 0x41 ∷ []) 1 0 0 0 0 ≡ refused 12 47
unfolding everything
padding-bit = refl

pub minus-bit : step_read Narrow 1 1 (0 ∷ []) (0x30 ∷ 0x00 ∷ 0x80 ∷ 0x00 ∷ 0x80 ∷ 0x00 ∷ []) 1 1 1 ≡ refused 12 32
unfolding everything
minus-bit = refl
