-- `sines::table::entry` meets its contract: each arm holds what the rule gives at its place, and no place is left.
-- Made by tools/sine_table.py.
use Rattle.series.proofs.Tables.{covered}
use Rattle.sines.proofs.Entries.{Right, arm}
use Rattle.sines.proofs.table.entry.Goals as goal

pub returns-in-0 : goal.returns-in-0
unfolding Right
returns-in-0 c = arm 0 (tt, tt) c.in-0.is

pub returns-in-1 : goal.returns-in-1
unfolding Right
returns-in-1 c = arm 1 (tt, tt) c.in-1.is

pub returns-in-2 : goal.returns-in-2
unfolding Right
returns-in-2 c = arm 2 (tt, tt) c.in-2.is

pub returns-in-3 : goal.returns-in-3
unfolding Right
returns-in-3 c = arm 3 (tt, tt) c.in-3.is

pub returns-in-4 : goal.returns-in-4
unfolding Right
returns-in-4 c = arm 4 (tt, tt) c.in-4.is

pub returns-in-5 : goal.returns-in-5
unfolding Right
returns-in-5 c = arm 5 (tt, tt) c.in-5.is

pub returns-in-6 : goal.returns-in-6
unfolding Right
returns-in-6 c = arm 6 (tt, tt) c.in-6.is

pub returns-in-7 : goal.returns-in-7
unfolding Right
returns-in-7 c = arm 7 (tt, tt) c.in-7.is

pub returns-in-8 : goal.returns-in-8
unfolding Right
returns-in-8 c = arm 8 (tt, tt) c.in-8.is

pub returns-in-9 : goal.returns-in-9
unfolding Right
returns-in-9 c = arm 9 (tt, tt) c.in-9.is

pub returns-in-10 : goal.returns-in-10
unfolding Right
returns-in-10 c = arm 10 (tt, tt) c.in-10.is

pub returns-in-11 : goal.returns-in-11
unfolding Right
returns-in-11 c = arm 11 (tt, tt) c.in-11.is

pub returns-in-12 : goal.returns-in-12
unfolding Right
returns-in-12 c = arm 12 (tt, tt) c.in-12.is

pub returns-in-13 : goal.returns-in-13
unfolding Right
returns-in-13 c = arm 13 (tt, tt) c.in-13.is

pub returns-in-14 : goal.returns-in-14
unfolding Right
returns-in-14 c = arm 14 (tt, tt) c.in-14.is

pub returns-in-15 : goal.returns-in-15
unfolding Right
returns-in-15 c = arm 15 (tt, tt) c.in-15.is

pub returns-in-16 : goal.returns-in-16
unfolding Right
returns-in-16 c = arm 16 (tt, tt) c.in-16.is

pub returns-in-17 : goal.returns-in-17
unfolding Right
returns-in-17 c = arm 17 (tt, tt) c.in-17.is

pub returns-in-18 : goal.returns-in-18
unfolding Right
returns-in-18 c = arm 18 (tt, tt) c.in-18.is

pub returns-in-19 : goal.returns-in-19
unfolding Right
returns-in-19 c = arm 19 (tt, tt) c.in-19.is

pub returns-in-20 : goal.returns-in-20
unfolding Right
returns-in-20 c = arm 20 (tt, tt) c.in-20.is

pub returns-in-21 : goal.returns-in-21
unfolding Right
returns-in-21 c = arm 21 (tt, tt) c.in-21.is

pub returns-in-22 : goal.returns-in-22
unfolding Right
returns-in-22 c = arm 22 (tt, tt) c.in-22.is

pub returns-in-23 : goal.returns-in-23
unfolding Right
returns-in-23 c = arm 23 (tt, tt) c.in-23.is

pub returns-in-24 : goal.returns-in-24
unfolding Right
returns-in-24 c = arm 24 (tt, tt) c.in-24.is

pub returns-in-25 : goal.returns-in-25
unfolding Right
returns-in-25 c = arm 25 (tt, tt) c.in-25.is

pub returns-in-26 : goal.returns-in-26
unfolding Right
returns-in-26 c = arm 26 (tt, tt) c.in-26.is

pub returns-in-27 : goal.returns-in-27
unfolding Right
returns-in-27 c = arm 27 (tt, tt) c.in-27.is

pub returns-in-28 : goal.returns-in-28
unfolding Right
returns-in-28 c = arm 28 (tt, tt) c.in-28.is

pub returns-in-29 : goal.returns-in-29
unfolding Right
returns-in-29 c = arm 29 (tt, tt) c.in-29.is

pub returns-in-30 : goal.returns-in-30
unfolding Right
returns-in-30 c = arm 30 (tt, tt) c.in-30.is

pub returns-in-31 : goal.returns-in-31
unfolding Right
returns-in-31 c = arm 31 (tt, tt) c.in-31.is

pub returns-in-32 : goal.returns-in-32
unfolding Right
returns-in-32 c = arm 32 (tt, tt) c.in-32.is

pub returns-in-33 : goal.returns-in-33
unfolding Right
returns-in-33 c = arm 33 (tt, tt) c.in-33.is

pub returns-in-34 : goal.returns-in-34
unfolding Right
returns-in-34 c = arm 34 (tt, tt) c.in-34.is

pub returns-in-35 : goal.returns-in-35
unfolding Right
returns-in-35 c = arm 35 (tt, tt) c.in-35.is

pub returns-in-36 : goal.returns-in-36
unfolding Right
returns-in-36 c = arm 36 (tt, tt) c.in-36.is

pub returns-in-37 : goal.returns-in-37
unfolding Right
returns-in-37 c = arm 37 (tt, tt) c.in-37.is

pub returns-in-38 : goal.returns-in-38
unfolding Right
returns-in-38 c = arm 38 (tt, tt) c.in-38.is

pub returns-in-39 : goal.returns-in-39
unfolding Right
returns-in-39 c = arm 39 (tt, tt) c.in-39.is

pub returns-in-40 : goal.returns-in-40
unfolding Right
returns-in-40 c = arm 40 (tt, tt) c.in-40.is

pub returns-in-41 : goal.returns-in-41
unfolding Right
returns-in-41 c = arm 41 (tt, tt) c.in-41.is

pub returns-in-42 : goal.returns-in-42
unfolding Right
returns-in-42 c = arm 42 (tt, tt) c.in-42.is

pub returns-in-43 : goal.returns-in-43
unfolding Right
returns-in-43 c = arm 43 (tt, tt) c.in-43.is

pub returns-in-44 : goal.returns-in-44
unfolding Right
returns-in-44 c = arm 44 (tt, tt) c.in-44.is

pub returns-in-45 : goal.returns-in-45
unfolding Right
returns-in-45 c = arm 45 (tt, tt) c.in-45.is

pub returns-in-46 : goal.returns-in-46
unfolding Right
returns-in-46 c = arm 46 (tt, tt) c.in-46.is

pub returns-in-47 : goal.returns-in-47
unfolding Right
returns-in-47 c = arm 47 (tt, tt) c.in-47.is

pub returns-in-48 : goal.returns-in-48
unfolding Right
returns-in-48 c = arm 48 (tt, tt) c.in-48.is

pub returns-in-49 : goal.returns-in-49
unfolding Right
returns-in-49 c = arm 49 (tt, tt) c.in-49.is

pub returns-in-50 : goal.returns-in-50
unfolding Right
returns-in-50 c = arm 50 (tt, tt) c.in-50.is

pub returns-in-51 : goal.returns-in-51
unfolding Right
returns-in-51 c = arm 51 (tt, tt) c.in-51.is

pub returns-in-52 : goal.returns-in-52
unfolding Right
returns-in-52 c = arm 52 (tt, tt) c.in-52.is

pub returns-in-53 : goal.returns-in-53
unfolding Right
returns-in-53 c = arm 53 (tt, tt) c.in-53.is

pub returns-in-54 : goal.returns-in-54
unfolding Right
returns-in-54 c = arm 54 (tt, tt) c.in-54.is

pub returns-in-55 : goal.returns-in-55
unfolding Right
returns-in-55 c = arm 55 (tt, tt) c.in-55.is

pub returns-in-56 : goal.returns-in-56
unfolding Right
returns-in-56 c = arm 56 (tt, tt) c.in-56.is

pub returns-in-57 : goal.returns-in-57
unfolding Right
returns-in-57 c = arm 57 (tt, tt) c.in-57.is

pub returns-in-58 : goal.returns-in-58
unfolding Right
returns-in-58 c = arm 58 (tt, tt) c.in-58.is

pub returns-in-59 : goal.returns-in-59
unfolding Right
returns-in-59 c = arm 59 (tt, tt) c.in-59.is

pub returns-in-60 : goal.returns-in-60
unfolding Right
returns-in-60 c = arm 60 (tt, tt) c.in-60.is

pub returns-in-61 : goal.returns-in-61
unfolding Right
returns-in-61 c = arm 61 (tt, tt) c.in-61.is

pub returns-in-62 : goal.returns-in-62
unfolding Right
returns-in-62 c = arm 62 (tt, tt) c.in-62.is

pub returns-in-63 : goal.returns-in-63
unfolding Right
returns-in-63 c = arm 63 (tt, tt) c.in-63.is

pub returns-in-64 : goal.returns-in-64
unfolding Right
returns-in-64 c = arm 64 (tt, tt) c.in-64.is

pub returns-in-65 : goal.returns-in-65
unfolding Right
returns-in-65 c = arm 65 (tt, tt) c.in-65.is

pub returns-in-66 : goal.returns-in-66
unfolding Right
returns-in-66 c = arm 66 (tt, tt) c.in-66.is

pub returns-in-67 : goal.returns-in-67
unfolding Right
returns-in-67 c = arm 67 (tt, tt) c.in-67.is

pub returns-in-68 : goal.returns-in-68
unfolding Right
returns-in-68 c = arm 68 (tt, tt) c.in-68.is

pub returns-in-69 : goal.returns-in-69
unfolding Right
returns-in-69 c = arm 69 (tt, tt) c.in-69.is

pub returns-in-70 : goal.returns-in-70
unfolding Right
returns-in-70 c = arm 70 (tt, tt) c.in-70.is

pub returns-in-71 : goal.returns-in-71
unfolding Right
returns-in-71 c = arm 71 (tt, tt) c.in-71.is

pub returns-in-72 : goal.returns-in-72
unfolding Right
returns-in-72 c = arm 72 (tt, tt) c.in-72.is

pub returns-in-73 : goal.returns-in-73
unfolding Right
returns-in-73 c = arm 73 (tt, tt) c.in-73.is

pub returns-in-74 : goal.returns-in-74
unfolding Right
returns-in-74 c = arm 74 (tt, tt) c.in-74.is

pub returns-in-75 : goal.returns-in-75
unfolding Right
returns-in-75 c = arm 75 (tt, tt) c.in-75.is

pub returns-in-76 : goal.returns-in-76
unfolding Right
returns-in-76 c = arm 76 (tt, tt) c.in-76.is

pub returns-in-77 : goal.returns-in-77
unfolding Right
returns-in-77 c = arm 77 (tt, tt) c.in-77.is

pub returns-in-78 : goal.returns-in-78
unfolding Right
returns-in-78 c = arm 78 (tt, tt) c.in-78.is

pub returns-in-79 : goal.returns-in-79
unfolding Right
returns-in-79 c = arm 79 (tt, tt) c.in-79.is

pub returns-in-80 : goal.returns-in-80
unfolding Right
returns-in-80 c = arm 80 (tt, tt) c.in-80.is

pub returns-in-81 : goal.returns-in-81
unfolding Right
returns-in-81 c = arm 81 (tt, tt) c.in-81.is

pub returns-in-82 : goal.returns-in-82
unfolding Right
returns-in-82 c = arm 82 (tt, tt) c.in-82.is

pub returns-in-83 : goal.returns-in-83
unfolding Right
returns-in-83 c = arm 83 (tt, tt) c.in-83.is

pub returns-in-84 : goal.returns-in-84
unfolding Right
returns-in-84 c = arm 84 (tt, tt) c.in-84.is

pub returns-in-85 : goal.returns-in-85
unfolding Right
returns-in-85 c = arm 85 (tt, tt) c.in-85.is

pub returns-in-86 : goal.returns-in-86
unfolding Right
returns-in-86 c = arm 86 (tt, tt) c.in-86.is

pub returns-in-87 : goal.returns-in-87
unfolding Right
returns-in-87 c = arm 87 (tt, tt) c.in-87.is

pub returns-in-88 : goal.returns-in-88
unfolding Right
returns-in-88 c = arm 88 (tt, tt) c.in-88.is

pub returns-in-89 : goal.returns-in-89
unfolding Right
returns-in-89 c = arm 89 (tt, tt) c.in-89.is

pub returns-in-90 : goal.returns-in-90
unfolding Right
returns-in-90 c = arm 90 (tt, tt) c.in-90.is

pub returns-in-91 : goal.returns-in-91
unfolding Right
returns-in-91 c = arm 91 (tt, tt) c.in-91.is

pub returns-in-92 : goal.returns-in-92
unfolding Right
returns-in-92 c = arm 92 (tt, tt) c.in-92.is

pub returns-in-93 : goal.returns-in-93
unfolding Right
returns-in-93 c = arm 93 (tt, tt) c.in-93.is

pub returns-in-94 : goal.returns-in-94
unfolding Right
returns-in-94 c = arm 94 (tt, tt) c.in-94.is

pub returns-in-95 : goal.returns-in-95
unfolding Right
returns-in-95 c = arm 95 (tt, tt) c.in-95.is

pub returns-in-96 : goal.returns-in-96
unfolding Right
returns-in-96 c = arm 96 (tt, tt) c.in-96.is

pub returns-in-97 : goal.returns-in-97
unfolding Right
returns-in-97 c = arm 97 (tt, tt) c.in-97.is

pub returns-in-98 : goal.returns-in-98
unfolding Right
returns-in-98 c = arm 98 (tt, tt) c.in-98.is

pub returns-in-99 : goal.returns-in-99
unfolding Right
returns-in-99 c = arm 99 (tt, tt) c.in-99.is

pub returns-in-100 : goal.returns-in-100
unfolding Right
returns-in-100 c = arm 100 (tt, tt) c.in-100.is

pub returns-in-101 : goal.returns-in-101
unfolding Right
returns-in-101 c = arm 101 (tt, tt) c.in-101.is

pub returns-in-102 : goal.returns-in-102
unfolding Right
returns-in-102 c = arm 102 (tt, tt) c.in-102.is

pub returns-in-103 : goal.returns-in-103
unfolding Right
returns-in-103 c = arm 103 (tt, tt) c.in-103.is

pub returns-in-104 : goal.returns-in-104
unfolding Right
returns-in-104 c = arm 104 (tt, tt) c.in-104.is

pub returns-in-105 : goal.returns-in-105
unfolding Right
returns-in-105 c = arm 105 (tt, tt) c.in-105.is

pub returns-in-106 : goal.returns-in-106
unfolding Right
returns-in-106 c = arm 106 (tt, tt) c.in-106.is

pub returns-in-107 : goal.returns-in-107
unfolding Right
returns-in-107 c = arm 107 (tt, tt) c.in-107.is

pub returns-in-108 : goal.returns-in-108
unfolding Right
returns-in-108 c = arm 108 (tt, tt) c.in-108.is

pub returns-in-109 : goal.returns-in-109
unfolding Right
returns-in-109 c = arm 109 (tt, tt) c.in-109.is

pub returns-in-110 : goal.returns-in-110
unfolding Right
returns-in-110 c = arm 110 (tt, tt) c.in-110.is

pub returns-in-111 : goal.returns-in-111
unfolding Right
returns-in-111 c = arm 111 (tt, tt) c.in-111.is

pub returns-in-112 : goal.returns-in-112
unfolding Right
returns-in-112 c = arm 112 (tt, tt) c.in-112.is

pub returns-in-113 : goal.returns-in-113
unfolding Right
returns-in-113 c = arm 113 (tt, tt) c.in-113.is

pub returns-in-114 : goal.returns-in-114
unfolding Right
returns-in-114 c = arm 114 (tt, tt) c.in-114.is

pub returns-in-115 : goal.returns-in-115
unfolding Right
returns-in-115 c = arm 115 (tt, tt) c.in-115.is

pub returns-in-116 : goal.returns-in-116
unfolding Right
returns-in-116 c = arm 116 (tt, tt) c.in-116.is

pub returns-in-117 : goal.returns-in-117
unfolding Right
returns-in-117 c = arm 117 (tt, tt) c.in-117.is

pub returns-in-118 : goal.returns-in-118
unfolding Right
returns-in-118 c = arm 118 (tt, tt) c.in-118.is

pub returns-in-119 : goal.returns-in-119
unfolding Right
returns-in-119 c = arm 119 (tt, tt) c.in-119.is

pub returns-in-120 : goal.returns-in-120
unfolding Right
returns-in-120 c = arm 120 (tt, tt) c.in-120.is

pub returns-in-121 : goal.returns-in-121
unfolding Right
returns-in-121 c = arm 121 (tt, tt) c.in-121.is

pub returns-in-122 : goal.returns-in-122
unfolding Right
returns-in-122 c = arm 122 (tt, tt) c.in-122.is

pub returns-in-123 : goal.returns-in-123
unfolding Right
returns-in-123 c = arm 123 (tt, tt) c.in-123.is

pub returns-in-124 : goal.returns-in-124
unfolding Right
returns-in-124 c = arm 124 (tt, tt) c.in-124.is

pub returns-in-125 : goal.returns-in-125
unfolding Right
returns-in-125 c = arm 125 (tt, tt) c.in-125.is

pub returns-in-126 : goal.returns-in-126
unfolding Right
returns-in-126 c = arm 126 (tt, tt) c.in-126.is

pub returns-in-127 : goal.returns-in-127
unfolding Right
returns-in-127 c = arm 127 (tt, tt) c.in-127.is

pub returns-in-128 : goal.returns-in-128
unfolding Right
returns-in-128 c = arm 128 (tt, tt) c.in-128.is

pub returns-in_default : goal.returns-in_default
returns-in_default c = absurd (covered 129 c.args.j c.in_default.in_default-own.rest c.requires)
