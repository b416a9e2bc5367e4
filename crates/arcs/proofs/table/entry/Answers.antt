-- `arcs::table::entry` meets its contract: antt computes `arc_tangent k` and `lean k` at each arm, and what is none of the first 128 is
-- 128.
use Rattle.arcs.proofs.Tabled.{angled, held, held_last}
use Rattle.arcs.proofs.table.entry.Goals as goal

pub returns-in-0 : goal.returns-in-0
unfolding angled
returns-in-0 c = held c.in-0.is tt tt

pub returns-in-1 : goal.returns-in-1
unfolding angled
returns-in-1 c = held c.in-1.is tt tt

pub returns-in-2 : goal.returns-in-2
unfolding angled
returns-in-2 c = held c.in-2.is tt tt

pub returns-in-3 : goal.returns-in-3
unfolding angled
returns-in-3 c = held c.in-3.is tt tt

pub returns-in-4 : goal.returns-in-4
unfolding angled
returns-in-4 c = held c.in-4.is tt tt

pub returns-in-5 : goal.returns-in-5
unfolding angled
returns-in-5 c = held c.in-5.is tt tt

pub returns-in-6 : goal.returns-in-6
unfolding angled
returns-in-6 c = held c.in-6.is tt tt

pub returns-in-7 : goal.returns-in-7
unfolding angled
returns-in-7 c = held c.in-7.is tt tt

pub returns-in-8 : goal.returns-in-8
unfolding angled
returns-in-8 c = held c.in-8.is tt tt

pub returns-in-9 : goal.returns-in-9
unfolding angled
returns-in-9 c = held c.in-9.is tt tt

pub returns-in-10 : goal.returns-in-10
unfolding angled
returns-in-10 c = held c.in-10.is tt tt

pub returns-in-11 : goal.returns-in-11
unfolding angled
returns-in-11 c = held c.in-11.is tt tt

pub returns-in-12 : goal.returns-in-12
unfolding angled
returns-in-12 c = held c.in-12.is tt tt

pub returns-in-13 : goal.returns-in-13
unfolding angled
returns-in-13 c = held c.in-13.is tt tt

pub returns-in-14 : goal.returns-in-14
unfolding angled
returns-in-14 c = held c.in-14.is tt tt

pub returns-in-15 : goal.returns-in-15
unfolding angled
returns-in-15 c = held c.in-15.is tt tt

pub returns-in-16 : goal.returns-in-16
unfolding angled
returns-in-16 c = held c.in-16.is tt tt

pub returns-in-17 : goal.returns-in-17
unfolding angled
returns-in-17 c = held c.in-17.is tt tt

pub returns-in-18 : goal.returns-in-18
unfolding angled
returns-in-18 c = held c.in-18.is tt tt

pub returns-in-19 : goal.returns-in-19
unfolding angled
returns-in-19 c = held c.in-19.is tt tt

pub returns-in-20 : goal.returns-in-20
unfolding angled
returns-in-20 c = held c.in-20.is tt tt

pub returns-in-21 : goal.returns-in-21
unfolding angled
returns-in-21 c = held c.in-21.is tt tt

pub returns-in-22 : goal.returns-in-22
unfolding angled
returns-in-22 c = held c.in-22.is tt tt

pub returns-in-23 : goal.returns-in-23
unfolding angled
returns-in-23 c = held c.in-23.is tt tt

pub returns-in-24 : goal.returns-in-24
unfolding angled
returns-in-24 c = held c.in-24.is tt tt

pub returns-in-25 : goal.returns-in-25
unfolding angled
returns-in-25 c = held c.in-25.is tt tt

pub returns-in-26 : goal.returns-in-26
unfolding angled
returns-in-26 c = held c.in-26.is tt tt

pub returns-in-27 : goal.returns-in-27
unfolding angled
returns-in-27 c = held c.in-27.is tt tt

pub returns-in-28 : goal.returns-in-28
unfolding angled
returns-in-28 c = held c.in-28.is tt tt

pub returns-in-29 : goal.returns-in-29
unfolding angled
returns-in-29 c = held c.in-29.is tt tt

pub returns-in-30 : goal.returns-in-30
unfolding angled
returns-in-30 c = held c.in-30.is tt tt

pub returns-in-31 : goal.returns-in-31
unfolding angled
returns-in-31 c = held c.in-31.is tt tt

pub returns-in-32 : goal.returns-in-32
unfolding angled
returns-in-32 c = held c.in-32.is tt tt

pub returns-in-33 : goal.returns-in-33
unfolding angled
returns-in-33 c = held c.in-33.is tt tt

pub returns-in-34 : goal.returns-in-34
unfolding angled
returns-in-34 c = held c.in-34.is tt tt

pub returns-in-35 : goal.returns-in-35
unfolding angled
returns-in-35 c = held c.in-35.is tt tt

pub returns-in-36 : goal.returns-in-36
unfolding angled
returns-in-36 c = held c.in-36.is tt tt

pub returns-in-37 : goal.returns-in-37
unfolding angled
returns-in-37 c = held c.in-37.is tt tt

pub returns-in-38 : goal.returns-in-38
unfolding angled
returns-in-38 c = held c.in-38.is tt tt

pub returns-in-39 : goal.returns-in-39
unfolding angled
returns-in-39 c = held c.in-39.is tt tt

pub returns-in-40 : goal.returns-in-40
unfolding angled
returns-in-40 c = held c.in-40.is tt tt

pub returns-in-41 : goal.returns-in-41
unfolding angled
returns-in-41 c = held c.in-41.is tt tt

pub returns-in-42 : goal.returns-in-42
unfolding angled
returns-in-42 c = held c.in-42.is tt tt

pub returns-in-43 : goal.returns-in-43
unfolding angled
returns-in-43 c = held c.in-43.is tt tt

pub returns-in-44 : goal.returns-in-44
unfolding angled
returns-in-44 c = held c.in-44.is tt tt

pub returns-in-45 : goal.returns-in-45
unfolding angled
returns-in-45 c = held c.in-45.is tt tt

pub returns-in-46 : goal.returns-in-46
unfolding angled
returns-in-46 c = held c.in-46.is tt tt

pub returns-in-47 : goal.returns-in-47
unfolding angled
returns-in-47 c = held c.in-47.is tt tt

pub returns-in-48 : goal.returns-in-48
unfolding angled
returns-in-48 c = held c.in-48.is tt tt

pub returns-in-49 : goal.returns-in-49
unfolding angled
returns-in-49 c = held c.in-49.is tt tt

pub returns-in-50 : goal.returns-in-50
unfolding angled
returns-in-50 c = held c.in-50.is tt tt

pub returns-in-51 : goal.returns-in-51
unfolding angled
returns-in-51 c = held c.in-51.is tt tt

pub returns-in-52 : goal.returns-in-52
unfolding angled
returns-in-52 c = held c.in-52.is tt tt

pub returns-in-53 : goal.returns-in-53
unfolding angled
returns-in-53 c = held c.in-53.is tt tt

pub returns-in-54 : goal.returns-in-54
unfolding angled
returns-in-54 c = held c.in-54.is tt tt

pub returns-in-55 : goal.returns-in-55
unfolding angled
returns-in-55 c = held c.in-55.is tt tt

pub returns-in-56 : goal.returns-in-56
unfolding angled
returns-in-56 c = held c.in-56.is tt tt

pub returns-in-57 : goal.returns-in-57
unfolding angled
returns-in-57 c = held c.in-57.is tt tt

pub returns-in-58 : goal.returns-in-58
unfolding angled
returns-in-58 c = held c.in-58.is tt tt

pub returns-in-59 : goal.returns-in-59
unfolding angled
returns-in-59 c = held c.in-59.is tt tt

pub returns-in-60 : goal.returns-in-60
unfolding angled
returns-in-60 c = held c.in-60.is tt tt

pub returns-in-61 : goal.returns-in-61
unfolding angled
returns-in-61 c = held c.in-61.is tt tt

pub returns-in-62 : goal.returns-in-62
unfolding angled
returns-in-62 c = held c.in-62.is tt tt

pub returns-in-63 : goal.returns-in-63
unfolding angled
returns-in-63 c = held c.in-63.is tt tt

pub returns-in-64 : goal.returns-in-64
unfolding angled
returns-in-64 c = held c.in-64.is tt tt

pub returns-in-65 : goal.returns-in-65
unfolding angled
returns-in-65 c = held c.in-65.is tt tt

pub returns-in-66 : goal.returns-in-66
unfolding angled
returns-in-66 c = held c.in-66.is tt tt

pub returns-in-67 : goal.returns-in-67
unfolding angled
returns-in-67 c = held c.in-67.is tt tt

pub returns-in-68 : goal.returns-in-68
unfolding angled
returns-in-68 c = held c.in-68.is tt tt

pub returns-in-69 : goal.returns-in-69
unfolding angled
returns-in-69 c = held c.in-69.is tt tt

pub returns-in-70 : goal.returns-in-70
unfolding angled
returns-in-70 c = held c.in-70.is tt tt

pub returns-in-71 : goal.returns-in-71
unfolding angled
returns-in-71 c = held c.in-71.is tt tt

pub returns-in-72 : goal.returns-in-72
unfolding angled
returns-in-72 c = held c.in-72.is tt tt

pub returns-in-73 : goal.returns-in-73
unfolding angled
returns-in-73 c = held c.in-73.is tt tt

pub returns-in-74 : goal.returns-in-74
unfolding angled
returns-in-74 c = held c.in-74.is tt tt

pub returns-in-75 : goal.returns-in-75
unfolding angled
returns-in-75 c = held c.in-75.is tt tt

pub returns-in-76 : goal.returns-in-76
unfolding angled
returns-in-76 c = held c.in-76.is tt tt

pub returns-in-77 : goal.returns-in-77
unfolding angled
returns-in-77 c = held c.in-77.is tt tt

pub returns-in-78 : goal.returns-in-78
unfolding angled
returns-in-78 c = held c.in-78.is tt tt

pub returns-in-79 : goal.returns-in-79
unfolding angled
returns-in-79 c = held c.in-79.is tt tt

pub returns-in-80 : goal.returns-in-80
unfolding angled
returns-in-80 c = held c.in-80.is tt tt

pub returns-in-81 : goal.returns-in-81
unfolding angled
returns-in-81 c = held c.in-81.is tt tt

pub returns-in-82 : goal.returns-in-82
unfolding angled
returns-in-82 c = held c.in-82.is tt tt

pub returns-in-83 : goal.returns-in-83
unfolding angled
returns-in-83 c = held c.in-83.is tt tt

pub returns-in-84 : goal.returns-in-84
unfolding angled
returns-in-84 c = held c.in-84.is tt tt

pub returns-in-85 : goal.returns-in-85
unfolding angled
returns-in-85 c = held c.in-85.is tt tt

pub returns-in-86 : goal.returns-in-86
unfolding angled
returns-in-86 c = held c.in-86.is tt tt

pub returns-in-87 : goal.returns-in-87
unfolding angled
returns-in-87 c = held c.in-87.is tt tt

pub returns-in-88 : goal.returns-in-88
unfolding angled
returns-in-88 c = held c.in-88.is tt tt

pub returns-in-89 : goal.returns-in-89
unfolding angled
returns-in-89 c = held c.in-89.is tt tt

pub returns-in-90 : goal.returns-in-90
unfolding angled
returns-in-90 c = held c.in-90.is tt tt

pub returns-in-91 : goal.returns-in-91
unfolding angled
returns-in-91 c = held c.in-91.is tt tt

pub returns-in-92 : goal.returns-in-92
unfolding angled
returns-in-92 c = held c.in-92.is tt tt

pub returns-in-93 : goal.returns-in-93
unfolding angled
returns-in-93 c = held c.in-93.is tt tt

pub returns-in-94 : goal.returns-in-94
unfolding angled
returns-in-94 c = held c.in-94.is tt tt

pub returns-in-95 : goal.returns-in-95
unfolding angled
returns-in-95 c = held c.in-95.is tt tt

pub returns-in-96 : goal.returns-in-96
unfolding angled
returns-in-96 c = held c.in-96.is tt tt

pub returns-in-97 : goal.returns-in-97
unfolding angled
returns-in-97 c = held c.in-97.is tt tt

pub returns-in-98 : goal.returns-in-98
unfolding angled
returns-in-98 c = held c.in-98.is tt tt

pub returns-in-99 : goal.returns-in-99
unfolding angled
returns-in-99 c = held c.in-99.is tt tt

pub returns-in-100 : goal.returns-in-100
unfolding angled
returns-in-100 c = held c.in-100.is tt tt

pub returns-in-101 : goal.returns-in-101
unfolding angled
returns-in-101 c = held c.in-101.is tt tt

pub returns-in-102 : goal.returns-in-102
unfolding angled
returns-in-102 c = held c.in-102.is tt tt

pub returns-in-103 : goal.returns-in-103
unfolding angled
returns-in-103 c = held c.in-103.is tt tt

pub returns-in-104 : goal.returns-in-104
unfolding angled
returns-in-104 c = held c.in-104.is tt tt

pub returns-in-105 : goal.returns-in-105
unfolding angled
returns-in-105 c = held c.in-105.is tt tt

pub returns-in-106 : goal.returns-in-106
unfolding angled
returns-in-106 c = held c.in-106.is tt tt

pub returns-in-107 : goal.returns-in-107
unfolding angled
returns-in-107 c = held c.in-107.is tt tt

pub returns-in-108 : goal.returns-in-108
unfolding angled
returns-in-108 c = held c.in-108.is tt tt

pub returns-in-109 : goal.returns-in-109
unfolding angled
returns-in-109 c = held c.in-109.is tt tt

pub returns-in-110 : goal.returns-in-110
unfolding angled
returns-in-110 c = held c.in-110.is tt tt

pub returns-in-111 : goal.returns-in-111
unfolding angled
returns-in-111 c = held c.in-111.is tt tt

pub returns-in-112 : goal.returns-in-112
unfolding angled
returns-in-112 c = held c.in-112.is tt tt

pub returns-in-113 : goal.returns-in-113
unfolding angled
returns-in-113 c = held c.in-113.is tt tt

pub returns-in-114 : goal.returns-in-114
unfolding angled
returns-in-114 c = held c.in-114.is tt tt

pub returns-in-115 : goal.returns-in-115
unfolding angled
returns-in-115 c = held c.in-115.is tt tt

pub returns-in-116 : goal.returns-in-116
unfolding angled
returns-in-116 c = held c.in-116.is tt tt

pub returns-in-117 : goal.returns-in-117
unfolding angled
returns-in-117 c = held c.in-117.is tt tt

pub returns-in-118 : goal.returns-in-118
unfolding angled
returns-in-118 c = held c.in-118.is tt tt

pub returns-in-119 : goal.returns-in-119
unfolding angled
returns-in-119 c = held c.in-119.is tt tt

pub returns-in-120 : goal.returns-in-120
unfolding angled
returns-in-120 c = held c.in-120.is tt tt

pub returns-in-121 : goal.returns-in-121
unfolding angled
returns-in-121 c = held c.in-121.is tt tt

pub returns-in-122 : goal.returns-in-122
unfolding angled
returns-in-122 c = held c.in-122.is tt tt

pub returns-in-123 : goal.returns-in-123
unfolding angled
returns-in-123 c = held c.in-123.is tt tt

pub returns-in-124 : goal.returns-in-124
unfolding angled
returns-in-124 c = held c.in-124.is tt tt

pub returns-in-125 : goal.returns-in-125
unfolding angled
returns-in-125 c = held c.in-125.is tt tt

pub returns-in-126 : goal.returns-in-126
unfolding angled
returns-in-126 c = held c.in-126.is tt tt

pub returns-in-127 : goal.returns-in-127
unfolding angled
returns-in-127 c = held c.in-127.is tt tt

pub returns-in_default : goal.returns-in_default
unfolding angled
returns-in_default c = held_last c.in_default.in_default-own.rest c.requires tt
